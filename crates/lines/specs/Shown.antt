-- The lines that `desk` reads, as bytes, in 01's words: these are the definitions to hold beside the page.
-- Assumes nothing.
use Rattle.std.specs.Prelude.{List, [], ◌∷◌, ◌++◌, ℕ, ◌+◌, ◌≤◌, length}
use Rattle.fields.specs.Numbers.{show_number}
use Rattle.lines.specs.declared.Op.{Op}
use Rattle.lines.specs.declared.Op.TheVariants.{AbsoluteInc, AbsoluteGet, SuppressedInc, SuppressedGet}
use Rattle.fields.specs.Ranges.{largest, exact_largest, Key}

-- ---- words of a line, by their bytes

-- window=
abbrev pub window_text : List ℕ
window_text = 119 ∷ 105 ∷ 110 ∷ 100 ∷ 111 ∷ 119 ∷ 61 ∷ []

--  bucket=
abbrev pub bucket_text : List ℕ
bucket_text = 32 ∷ 98 ∷ 117 ∷ 99 ∷ 107 ∷ 101 ∷ 116 ∷ 61 ∷ []

--  factor=
abbrev pub factor_text : List ℕ
factor_text = 32 ∷ 102 ∷ 97 ∷ 99 ∷ 116 ∷ 111 ∷ 114 ∷ 61 ∷ []

--  cache=
abbrev pub cache_text : List ℕ
cache_text = 32 ∷ 99 ∷ 97 ∷ 99 ∷ 104 ∷ 101 ∷ 61 ∷ []

-- t=
abbrev pub t_text : List ℕ
t_text = 116 ∷ 61 ∷ []

--  op=ainc,  op=aget,  op=sinc,  op=sget
abbrev pub op_text : Op → List ℕ
op_text AbsoluteInc = 32 ∷ 111 ∷ 112 ∷ 61 ∷ 97 ∷ 105 ∷ 110 ∷ 99 ∷ []
op_text AbsoluteGet = 32 ∷ 111 ∷ 112 ∷ 61 ∷ 97 ∷ 103 ∷ 101 ∷ 116 ∷ []
op_text SuppressedInc = 32 ∷ 111 ∷ 112 ∷ 61 ∷ 115 ∷ 105 ∷ 110 ∷ 99 ∷ []
op_text SuppressedGet = 32 ∷ 111 ∷ 112 ∷ 61 ∷ 115 ∷ 103 ∷ 101 ∷ 116 ∷ []

--  key=
abbrev pub key_text : List ℕ
key_text = 32 ∷ 107 ∷ 101 ∷ 121 ∷ 61 ∷ []

--  rate=
abbrev pub rate_text : List ℕ
rate_text = 32 ∷ 114 ∷ 97 ∷ 116 ∷ 101 ∷ 61 ∷ []

--  n=
abbrev pub n_text : List ℕ
n_text = 32 ∷ 110 ∷ 61 ∷ []

--  draw=
abbrev pub draw_text : List ℕ
draw_text = 32 ∷ 100 ∷ 114 ∷ 97 ∷ 119 ∷ 61 ∷ []

-- ---- the lines that are read

-- window=10 bucket=100 factor=2 cache=100
unfoldable pub show_settings : ℕ → ℕ → ℕ → ℕ → List ℕ
show_settings window bucket factor cache =
    window_text ++ (show_number window ++ (bucket_text ++ (show_number bucket ++ (factor_text ++ (show_number factor ++ (cache_text ++ show_number cache))))))

pub record SettingsFit (window bucket factor cache : ℕ) : Type 0 where
  pub windows : window ≤ largest
  pub buckets : bucket ≤ largest
  pub factors : factor ≤ exact_largest
  pub caches : cache ≤ largest

-- t=0 op=sinc key=a rate=60 n=8 draw=0
unfoldable pub show_call : ℕ → Op → List ℕ → ℕ → ℕ → ℕ → List ℕ
show_call t op key rate n draw =
    t_text ++ (show_number t ++
    (op_text op ++ (key_text ++ (key ++ (rate_text ++ (show_number rate ++ (n_text ++ (show_number n ++ (draw_text ++ show_number draw)))))))))

pub record CallFits (t : ℕ) (key : List ℕ) (rate n draw : ℕ) : Type 0 where
  pub times : t ≤ largest
  pub keys : Key key
  pub rates : rate ≤ exact_largest
  pub counts : n ≤ largest
  pub draws : draw ≤ largest

-- where the key starts in such a line
abbrev pub key_start : ℕ → Op → ℕ
key_start t op = length t_text + length (show_number t) + length (op_text op) + length key_text
