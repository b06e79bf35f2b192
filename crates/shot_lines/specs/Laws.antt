-- Reading and showing a shot line undo each other: a line is read exactly where values in range show as it, and as these values.
-- Assumes nothing.
use Rattle.std.specs.Prelude.{◌≡◌, refl, false, List, ◌++◌, ℕ, ◌+◌, ◌≤◌, ◌<◌, Option, Some, None, length, drop}
use Rattle.std.proofs.Common.{ap, ◌∙◌, arith, length-append}
use Rattle.fields.specs.Numbers.{show_number, show-short}
use Rattle.fields.specs.Parts.{field_at}
use Rattle.fields.specs.Ranges.{largest, exact_largest}
use Rattle.lines.specs.Laws.{key_in, show_numbers, NumbersFit, ReadTail, tail-read, tail-shown, spaced-stops, exact-is, is-exact}
use Rattle.lines.specs.ReadLaws.{Field, each_number, each_tail, each-test, field-shown, field-read, past-field}
use Rattle.lines.specs.Reading.{tail_at, is_exact}
use Rattle.lines.specs.Shown.{t_text, rate_text, draw_text}
use Rattle.shot_lines.specs.Reading.{shot_line, read_shot}
use Rattle.shot_lines.specs.Shown.{controller_text, shot_text, show_shot, ShotFits, key_start}
use Rattle.shot_lines.specs.declared.ShotLine.{ShotLine}

pub record ReadShot (line : List ℕ) (t start end number rate draw : ℕ) : Type 0 where
  pub fits : ShotFits t (key_in line start end) number rate draw
  pub starts : start ≡ key_start t
  pub ends : end ≡ start + length (key_in line start end)
  pub shows : line ≡ show_shot t (key_in line start end) number rate draw

-- what is found in a shot line
abbrev pub ShotRead : List ℕ → Option ShotLine → Type 0
ShotRead line (Some l) = ReadShot line l.t l.start l.end l.number l.rate l.draw
ShotRead line None = Unit {0}

shot-joined : (line : List ℕ) (t start end number rate draw a : ℕ) → Field line 0 t_text t a →
    ReadTail line a controller_text shot_text rate_text draw_text start end number rate draw → rate ≤ exact_largest →
    ReadShot line t start end number rate draw
unfolding show_shot
shot-joined line t start end number rate draw a p x h =
    record {
      fits = record { times = p.fits; keys = x.keys; numbers = x.fits.firsts; rates = h; draws = x.fits.thirds };
      starts = omega (arith, p.past, x.starts);
      ends = x.ends;
      shows = p.shows ∙ ap (λ (m : List ℕ). t_text ++ (show_number t ++ m)) x.shows;
    }

-- what reads as a shot is this shot shown, and its controller stands where it says
pub shot-read : (line : List ℕ) → ShotRead line (read_shot line)
unfolding read_shot
shot-read line =
    each_number (ShotRead line) (field_at line 0 t_text) None _ tt
    (λ t a p.
    each_tail (ShotRead line) (tail_at line a controller_text shot_text rate_text draw_text) None _ tt
    (λ start end number rate draw x.
    each-test (ShotRead line) (is_exact rate) (Some (shot_line t start end number rate draw)) None tt
    (λ h.
    shot-joined line t start end number rate draw a (field-read line t_text 0 t a p)
    (tail-read line controller_text shot_text rate_text draw_text a start end number rate draw x) (exact-is rate h))))

shot-line : (line : List ℕ) (t : ℕ) (key : List ℕ) (number rate draw : ℕ) → ShotFits t key number rate draw → line ≡ show_shot t key number rate draw →
    read_shot line ≡ Some (shot_line t (key_start t) (key_start t + length key) number rate draw)
unfolding read_shot show_shot
shot-line line t key number rate draw f e =
    let q : List ℕ = key ++ show_numbers shot_text number rate_text rate draw_text draw in
    let r : List ℕ = controller_text ++ q in
    let a : ℕ = 0 + length t_text + length (show_number t) in
    let p : drop a line ≡ r = past-field line t_text r 0 t e in
    let h : rate ≤ largest = omega (arith, f.rates) in
    let m : NumbersFit number rate draw = record { firsts = f.numbers; seconds = h; thirds = f.draws } in
    let k : a + length controller_text ≡ key_start t = omega arith in
    rw (
      field-shown line t_text r 0 t e f.times (spaced-stops false controller_text q refl),
      tail-shown line controller_text shot_text rate_text draw_text a key number rate draw refl refl refl f.keys m p,
      is-exact rate f.rates,
    )
    (ap (λ (i : ℕ). Some (shot_line t i (i + length key) number rate draw)) k)

-- a shot that is shown reads as this shot
pub shot-shown : (t : ℕ) (key : List ℕ) (number rate draw : ℕ) → ShotFits t key number rate draw →
    read_shot (show_shot t key number rate draw) ≡ Some (shot_line t (key_start t) (key_start t + length key) number rate draw)
shot-shown t key number rate draw f = shot-line (show_shot t key number rate draw) t key number rate draw f refl

-- every shot line is read
pub shot-whole : (line : List ℕ) (t : ℕ) (key : List ℕ) (number rate draw : ℕ) → ShotFits t key number rate draw → line ≡ show_shot t key number rate draw →
    read_shot line ≡ None → ⊥
shot-whole line t key number rate draw f e b =
    let s = shot-shown t key number rate draw f in
    let z : ◌≡◌ {A = ℕ} 0 1 = cc in
    omega arith

-- ---- a line that is longer than any that is read is bad

-- no shot line that is read is longer
abbrev pub longest_shot : ℕ
longest_shot = 137

shot-short : (t : ℕ) (key : List ℕ) (number rate draw : ℕ) → ShotFits t key number rate draw → length (show_shot t key number rate draw) ≤ longest_shot
unfolding show_shot
shot-short t key number rate draw f =
    simp length-append (omega (
      arith,
      show-short t f.times,
      show-short number f.numbers,
      show-short rate (omega (arith, f.rates)),
      show-short draw f.draws,
      f.keys.short,
    ))

pub shot-bad : (line : List ℕ) → longest_shot < length line → read_shot line ≡ None
shot-bad line h = go (read_shot line) (shot-read line)
  where
    go : (c : Option ShotLine) → ShotRead line c → c ≡ None
    go None p = refl
    go (Some l) p =
        let e = ap length p.shows in
        let k = shot-short l.t (key_in line l.start l.end) l.number l.rate l.draw p.fits in
        absurd (omega (arith, e, k))
