-- The shot lines that `shots` reads, as bytes, in the manner of `desk`'s call lines.
-- Assumes nothing.
use Rattle.std.specs.Prelude.{List, [], ◌∷◌, ◌++◌, ℕ, ◌+◌, ◌≤◌, length}
use Rattle.fields.specs.Numbers.{show_number}
use Rattle.fields.specs.Ranges.{largest, exact_largest, Key}
use Rattle.lines.specs.Shown.{t_text, rate_text, draw_text}

--  ctl=
abbrev pub controller_text : List ℕ
controller_text = 32 ∷ 99 ∷ 116 ∷ 108 ∷ 61 ∷ []

--  shot=
abbrev pub shot_text : List ℕ
shot_text = 32 ∷ 115 ∷ 104 ∷ 111 ∷ 116 ∷ 61 ∷ []

-- t=0 ctl=a shot=17 rate=60 draw=0
unfoldable pub show_shot : ℕ → List ℕ → ℕ → ℕ → ℕ → List ℕ
show_shot t key number rate draw =
    t_text ++ (show_number t ++
    (controller_text ++ (key ++ (shot_text ++ (show_number number ++ (rate_text ++ (show_number rate ++ (draw_text ++ show_number draw))))))))

pub record ShotFits (t : ℕ) (key : List ℕ) (number rate draw : ℕ) : Type 0 where
  pub times : t ≤ largest
  pub keys : Key key
  pub numbers : number ≤ largest
  pub rates : rate ≤ exact_largest
  pub draws : draw ≤ largest

-- where the controller's key starts in such a line
abbrev pub key_start : ℕ → ℕ
key_start t = length t_text + length (show_number t) + length controller_text
