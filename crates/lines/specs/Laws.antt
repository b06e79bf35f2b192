-- Reading and showing whole lines undo each other: a line is read exactly where values in range show as it, and as these values.
-- Assumes nothing.
use Rattle.std.specs.Prelude.{◌≡◌, refl, Bool, take, eqb}
use Rattle.std.proofs.Common.{sym, ap, subst, ◌∙◌, arith, length-append, length-take, length-drop, drop_of_length-le}
use Rattle.std.proofs.Math.Bool.{true, false}
use mathlib.Core.List.{List, [], ◌∷◌, ◌++◌, append-nil}
use Prim.Native.Nat.{ℕ, ◌+◌, ◌-◌, ◌≤◌}
use Rattle.std.proofs.Math.ListN.{length, drop}
use borrow.Author.Tests.{le-leb, leb-true, eq-eqb, eqb-true}
use Rattle.fields.specs.Bytes.{counts, class_of}
use Rattle.fields.specs.Numbers.{show_number, show-length}
use Rattle.lines.specs.Shown.{window_text, bucket_text, factor_text, cache_text, t_text, op_text, key_text, rate_text, n_text, draw_text}
use Rattle.fields.specs.Ranges.{largest, exact_largest, Key}
use Rattle.lines.specs.Shown.{show_settings, SettingsFit, show_call, CallFits, key_start}
use Rattle.std.specs.Prelude.{Option, Some, None}
use Rattle.lines.specs.declared.Tail.{Tail}
use Rattle.lines.specs.declared.CallLine.{CallLine}
use Rattle.lines.specs.declared.SettingsLine.{SettingsLine}
use Rattle.lines.specs.Reading.{keyed, settings_line, call_line, op_at, numbers_at, tail_at, is_exact, read_settings, read_call}
use Rattle.fields.specs.Parts.{field_at, text_at, key_at}
use Rattle.lines.specs.ReadLaws.{Stops, Field, KeyRead, each_number, each-place, each-name, each-numbers, each_tail, each-test, past-part, past-field}
use Rattle.lines.specs.ReadLaws.{text-shown, text-read, field-shown, field-read, key-shown, key-read, op-shown, op-read}
use Rattle.lines.specs.declared.Op.{Op}
use Rattle.lines.specs.declared.Op.TheVariants.{AbsoluteInc, AbsoluteGet, SuppressedInc, SuppressedGet}

-- ---- where a number and a key end, and where a line does

-- a text that starts with a space
abbrev pub Spaced : List ℕ → Type 0
Spaced [] = ⊥
Spaced (b ∷ bs) = b ≡ 32

space-stops : (l : Bool) → counts l 32 ≡ false
unfolding class_of
space-stops l = refl

pub spaced-stops : (l : Bool) (text rest : List ℕ) → Spaced text → Stops (counts l) (text ++ rest)
spaced-stops l [] rest e = absurd e
spaced-stops l (b ∷ bs) rest e = ap (counts l) e ∙ space-stops l

op-spaced : (op : Op) → Spaced (op_text op)
op-spaced AbsoluteInc = refl
op-spaced AbsoluteGet = refl
op-spaced SuppressedInc = refl
op-spaced SuppressedGet = refl

-- the last field ends with the line
last-shown : (line text : List ℕ) (at n : ℕ) → drop at line ≡ text ++ show_number n → at + length text + length (show_number n) ≡ length line
last-shown line text at n e =
    let l : length line - at ≡ length text + length (show_number n) = sym (length-drop at line) ∙ ap length e ∙ length-append text (show_number n) in
    omega (arith, show-length n)

last-read : (line text : List ℕ) (at n next : ℕ) → Field line at text n next → next ≡ length line → drop at line ≡ text ++ show_number n
last-read line text at n next f e =
    let h : length line ≤ next = omega arith in
    let d : drop next line ≡ [] = drop_of_length-le line h in
    f.shows ∙ rw (d, append-nil)

-- a number that ends the line, as a field with nothing past it
nothing-past : (text : List ℕ) (n : ℕ) → text ++ show_number n ≡ text ++ (show_number n ++ [])
nothing-past text n = rw append-nil

-- a number at most 2^53
pub exact-is : (n : ℕ) → is_exact n ≡ true → n ≤ exact_largest
unfolding is_exact
exact-is n e = leb-true n exact_largest e

pub is-exact : (n : ℕ) → n ≤ exact_largest → is_exact n ≡ true
unfolding is_exact
is-exact n h = le-leb n exact_largest h

-- ---- the three numbers that end a line

abbrev pub show_numbers : List ℕ → ℕ → List ℕ → ℕ → List ℕ → ℕ → List ℕ
show_numbers first x second y third z = first ++ (show_number x ++ (second ++ (show_number y ++ (third ++ show_number z))))

pub record NumbersFit (x y z : ℕ) : Type 0 where
  pub firsts : x ≤ largest
  pub seconds : y ≤ largest
  pub thirds : z ≤ largest

pub record ReadNumbers (line : List ℕ) (at : ℕ) (first second third : List ℕ) (x y z : ℕ) : Type 0 where
  pub fits : NumbersFit x y z
  pub shows : drop at line ≡ show_numbers first x second y third z

module _ (line first second third : List ℕ) where
  abbrev NumbersRead : ℕ → Option (ℕ × ℕ × ℕ) → Type 0
  NumbersRead at (Some p) = ReadNumbers line at first second third p.0 p.1 p.2
  NumbersRead at None = Unit {0}

  numbers-joined : (at x y z a b c : ℕ) → Field line at first x a → Field line a second y b → Field line b third z c → c ≡ length line →
      ReadNumbers line at first second third x y z
  numbers-joined at x y z a b c p q r e =
      record {
        fits = record { firsts = p.fits; seconds = q.fits; thirds = r.fits };
        shows = p.shows ∙ ap (λ (m : List ℕ). first ++ (show_number x ++ m))
            (q.shows ∙ ap (λ (m : List ℕ). second ++ (show_number y ++ m)) (last-read line third b z c r e));
      }

  numbers-found : (at : ℕ) → NumbersRead at (numbers_at line at first second third)
  unfolding numbers_at
  numbers-found at =
      each_number (NumbersRead at) (field_at line at first) None _ tt
      (λ x a p.
      each_number (NumbersRead at) (field_at line a second) None _ tt
      (λ y b q.
      each_number (NumbersRead at) (field_at line b third) None _ tt
      (λ z c r.
      each-test (NumbersRead at) (eqb c (length line)) (Some (x, y, z)) None tt
      (λ s. numbers-joined at x y z a b c (field-read line first at x a p) (field-read line second a y b q) (field-read line third b z c r)
      (eqb-true c (length line) s)))))

  -- what reads as numbers is these numbers shown
  pub numbers-read : (at x y z : ℕ) → numbers_at line at first second third ≡ Some (x, y, z) → ReadNumbers line at first second third x y z
  numbers-read at x y z e = subst (NumbersRead at) e (numbers-found at)

  -- numbers that are shown read as these numbers
  pub numbers-shown : (at x y z : ℕ) → Spaced second → Spaced third → NumbersFit x y z → drop at line ≡ show_numbers first x second y third z →
      numbers_at line at first second third ≡ Some (x, y, z)
  unfolding numbers_at
  numbers-shown at x y z s₁ s₂ f e =
      let r₂ : List ℕ = third ++ show_number z in
      let r₁ : List ℕ = second ++ (show_number y ++ r₂) in
      let a : ℕ = at + length first + length (show_number x) in
      let b : ℕ = a + length second + length (show_number y) in
      let p : drop a line ≡ r₁ = past-field line first r₁ at x e in
      let q : drop b line ≡ r₂ = past-field line second r₂ a y p in
      rw (
        field-shown line first r₁ at x e f.firsts (spaced-stops false second (show_number y ++ r₂) s₁),
        field-shown line second r₂ a y p f.seconds (spaced-stops false third (show_number z) s₂),
        field-shown line third [] b z (q ∙ nothing-past third z) f.thirds tt,
        eq-eqb _ _ (last-shown line third b z q),
      )

-- ---- a key, and then three numbers

-- the part of a line that is its key
abbrev pub key_in : List ℕ → ℕ → ℕ → List ℕ
key_in line start end = take (end - start) (drop start line)

pub record KeyInside (line : List ℕ) (start end : ℕ) : Type 0 where
  pub starts : start ≤ end
  pub ends : end ≤ length line

pub key-inside : (line : List ℕ) (start end : ℕ) → Key (key_in line start end) → end ≡ start + length (key_in line start end) → KeyInside line start end
key-inside line start end k e =
    let l : length (key_in line start end) ≤ length line - start = simp (length-take, length-drop) (omega arith) in
    record { starts = omega (arith, e); ends = omega (arith, e, l, k.some) }

pub record ReadTail (line : List ℕ) (at : ℕ) (text first second third : List ℕ) (start end x y z : ℕ) : Type 0 where
  pub keys : Key (key_in line start end)
  pub fits : NumbersFit x y z
  pub starts : start ≡ at + length text
  pub ends : end ≡ start + length (key_in line start end)
  pub shows : drop at line ≡ text ++ (key_in line start end ++ show_numbers first x second y third z)

module _ (line text first second third : List ℕ) where
  abbrev TailRead : ℕ → Option Tail → Type 0
  TailRead at (Some x) = ReadTail line at text first second third x.start x.end x.numbers.0 x.numbers.1 x.numbers.2
  TailRead at None = Unit {0}

  tail-joined : (at start end x y z : ℕ) → (start ≡ at + length text) × (drop at line ≡ text ++ drop start line) →
      KeyRead line start end (key_in line start end) → ReadNumbers line end first second third x y z →
      ReadTail line at text first second third start end x y z
  tail-joined at start end x y z p k n =
      record {
        keys = k.good;
        fits = n.fits;
        starts = p.0;
        ends = k.past;
        shows = p.1 ∙ ap (λ (m : List ℕ). text ++ m) (k.shows ∙ ap (λ (m : List ℕ). key_in line start end ++ m) n.shows);
      }

  tail-found : (at : ℕ) → TailRead at (tail_at line at text first second third)
  unfolding tail_at
  tail-found at =
      each-place (TailRead at) (text_at line at text) None _ tt
      (λ start p.
      each-place (TailRead at) (key_at line start) None _ tt
      (λ end k.
      each-numbers (TailRead at) (numbers_at line end first second third) None (λ x y z. Some (keyed start end x y z)) tt
      (λ x y z n.
      tail-joined at start end x y z (text-read line text at start p) (key-read line start end k) (numbers-read line first second third end x y z n))))

  -- what reads as a key and numbers is these shown, and the key stands where it says
  pub tail-read : (at start end x y z : ℕ) → tail_at line at text first second third ≡ Some (keyed start end x y z) →
      ReadTail line at text first second third start end x y z
  tail-read at start end x y z e = subst (TailRead at) e (tail-found at)

  -- a key and numbers that are shown read as these
  pub tail-shown : (at : ℕ) (key : List ℕ) (x y z : ℕ) → Spaced first → Spaced second → Spaced third → Key key → NumbersFit x y z →
      drop at line ≡ text ++ (key ++ show_numbers first x second y third z) →
      tail_at line at text first second third ≡ Some (keyed (at + length text) (at + length text + length key) x y z)
  unfolding tail_at
  tail-shown at key x y z s₁ s₂ s₃ k f e =
      let r₂ : List ℕ = show_numbers first x second y third z in
      let r₁ : List ℕ = key ++ r₂ in
      let s : ℕ = at + length text in
      let p : drop s line ≡ r₁ = past-part line text r₁ at e in
      let q : drop (s + length key) line ≡ r₂ = past-part line key r₂ s p in
      rw (
        text-shown line text r₁ at e,
        key-shown line key r₂ s p k (spaced-stops true first _ s₁),
        numbers-shown line first second third (s + length key) x y z s₂ s₃ f q,
      )

-- ---- settings lines

pub record ReadSettings (line : List ℕ) (window bucket factor cache : ℕ) : Type 0 where
  pub fits : SettingsFit window bucket factor cache
  pub shows : line ≡ show_settings window bucket factor cache

-- what is found in a settings line
abbrev pub SettingsRead : List ℕ → Option SettingsLine → Type 0
SettingsRead line (Some l) = ReadSettings line l.window l.bucket l.factor l.cache
SettingsRead line None = Unit {0}

settings-joined : (line : List ℕ) (window bucket factor cache a : ℕ) → Field line 0 window_text window a →
    ReadNumbers line a bucket_text factor_text cache_text bucket factor cache → factor ≤ exact_largest → ReadSettings line window bucket factor cache
unfolding show_settings
settings-joined line window bucket factor cache a p n h =
    record {
      fits = record { windows = p.fits; buckets = n.fits.firsts; factors = h; caches = n.fits.thirds };
      shows = p.shows ∙ ap (λ (l : List ℕ). window_text ++ (show_number window ++ l)) n.shows;
    }

-- what reads as settings is these settings shown
pub settings-read : (line : List ℕ) → SettingsRead line (read_settings line)
unfolding read_settings
settings-read line =
    each_number (SettingsRead line) (field_at line 0 window_text) None _ tt
    (λ window a p.
    each-numbers (SettingsRead line) (numbers_at line a bucket_text factor_text cache_text) None _ tt
    (λ bucket factor cache n.
    each-test (SettingsRead line) (is_exact factor) (Some (settings_line window bucket factor cache)) None tt
    (λ t.
    settings-joined line window bucket factor cache a (field-read line window_text 0 window a p)
    (numbers-read line bucket_text factor_text cache_text a bucket factor cache n) (exact-is factor t))))

settings-line : (line : List ℕ) (window bucket factor cache : ℕ) → SettingsFit window bucket factor cache → line ≡ show_settings window bucket factor cache →
    read_settings line ≡ Some (settings_line window bucket factor cache)
unfolding read_settings show_settings
settings-line line window bucket factor cache f e =
    let r : List ℕ = show_numbers bucket_text bucket factor_text factor cache_text cache in
    let a : ℕ = 0 + length window_text + length (show_number window) in
    let p : drop a line ≡ r = past-field line window_text r 0 window e in
    let h : factor ≤ largest = omega (arith, f.factors) in
    let n : NumbersFit bucket factor cache = record { firsts = f.buckets; seconds = h; thirds = f.caches } in
    rw (
      field-shown line window_text r 0 window e f.windows (space-stops false),
      numbers-shown line bucket_text factor_text cache_text a bucket factor cache refl refl n p,
      is-exact factor f.factors,
    )

-- settings that are shown read as these settings
pub settings-shown : (window bucket factor cache : ℕ) → SettingsFit window bucket factor cache →
    read_settings (show_settings window bucket factor cache) ≡ Some (settings_line window bucket factor cache)
settings-shown window bucket factor cache f = settings-line (show_settings window bucket factor cache) window bucket factor cache f refl

-- every settings line is read, and as the settings that it shows
pub settings-whole : (line : List ℕ) (window bucket factor cache : ℕ) → SettingsFit window bucket factor cache →
    line ≡ show_settings window bucket factor cache → read_settings line ≡ None → ⊥
settings-whole line window bucket factor cache f e b =
    let s = settings-shown window bucket factor cache f in
    let z : ◌≡◌ {A = ℕ} 0 1 = cc in
    omega arith

-- ---- call lines

pub record ReadCall (line : List ℕ) (t : ℕ) (op : Op) (start end rate n draw : ℕ) : Type 0 where
  pub fits : CallFits t (key_in line start end) rate n draw
  pub starts : start ≡ key_start t op
  pub ends : end ≡ start + length (key_in line start end)
  pub shows : line ≡ show_call t op (key_in line start end) rate n draw

-- what is found in a call line
abbrev pub CallRead : List ℕ → Option CallLine → Type 0
CallRead line (Some l) = ReadCall line l.t l.op l.start l.end l.rate l.n l.draw
CallRead line None = Unit {0}

call-joined : (line : List ℕ) (t : ℕ) (op : Op) (start end rate n draw a b : ℕ) → Field line 0 t_text t a →
    (b ≡ a + length (op_text op)) × (drop a line ≡ op_text op ++ drop b line) →
    ReadTail line b key_text rate_text n_text draw_text start end rate n draw → rate ≤ exact_largest → ReadCall line t op start end rate n draw
unfolding show_call
call-joined line t op start end rate n draw a b p q x h =
    record {
      fits = record { times = p.fits; keys = x.keys; rates = h; counts = x.fits.seconds; draws = x.fits.thirds };
      starts = omega (arith, p.past, q.0, x.starts);
      ends = x.ends;
      shows = p.shows ∙ ap (λ (m : List ℕ). t_text ++ (show_number t ++ m)) (q.1 ∙ ap (λ (m : List ℕ). op_text op ++ m) x.shows);
    }

-- what reads as a call is this call shown, and its key stands where it says
pub call-read : (line : List ℕ) → CallRead line (read_call line)
unfolding read_call
call-read line =
    each_number (CallRead line) (field_at line 0 t_text) None _ tt
    (λ t a p.
    each-name (CallRead line) (op_at line a) None _ tt
    (λ op b q.
    each_tail (CallRead line) (tail_at line b key_text rate_text n_text draw_text) None _ tt
    (λ start end rate n draw x.
    each-test (CallRead line) (is_exact rate) (Some (call_line t op start end rate n draw)) None tt
    (λ h.
    call-joined line t op start end rate n draw a b (field-read line t_text 0 t a p) (op-read line a op b q)
    (tail-read line key_text rate_text n_text draw_text b start end rate n draw x) (exact-is rate h)))))

call-line : (line : List ℕ) (t : ℕ) (op : Op) (key : List ℕ) (rate n draw : ℕ) → CallFits t key rate n draw → line ≡ show_call t op key rate n draw →
    read_call line ≡ Some (call_line t op (key_start t op) (key_start t op + length key) rate n draw)
unfolding read_call show_call
call-line line t op key rate n draw f e =
    let r₂ : List ℕ = key_text ++ (key ++ show_numbers rate_text rate n_text n draw_text draw) in
    let r₁ : List ℕ = op_text op ++ r₂ in
    let a : ℕ = 0 + length t_text + length (show_number t) in
    let b : ℕ = a + length (op_text op) in
    let p : drop a line ≡ r₁ = past-field line t_text r₁ 0 t e in
    let q : drop b line ≡ r₂ = past-part line (op_text op) r₂ a p in
    let h : rate ≤ largest = omega (arith, f.rates) in
    let m : NumbersFit rate n draw = record { firsts = h; seconds = f.counts; thirds = f.draws } in
    let k : b + length key_text ≡ key_start t op = omega arith in
    rw (
      field-shown line t_text r₁ 0 t e f.times (spaced-stops false (op_text op) r₂ (op-spaced op)),
      op-shown line r₂ a op p,
      tail-shown line key_text rate_text n_text draw_text b key rate n draw refl refl refl f.keys m q,
      is-exact rate f.rates,
    )
    (ap (λ (i : ℕ). Some (call_line t op i (i + length key) rate n draw)) k)

-- a call that is shown reads as this call
pub call-shown : (t : ℕ) (op : Op) (key : List ℕ) (rate n draw : ℕ) → CallFits t key rate n draw →
    read_call (show_call t op key rate n draw) ≡ Some (call_line t op (key_start t op) (key_start t op + length key) rate n draw)
call-shown t op key rate n draw f = call-line (show_call t op key rate n draw) t op key rate n draw f refl

-- every call line is read
pub call-whole : (line : List ℕ) (t : ℕ) (op : Op) (key : List ℕ) (rate n draw : ℕ) → CallFits t key rate n draw → line ≡ show_call t op key rate n draw →
    read_call line ≡ None → ⊥
call-whole line t op key rate n draw f e b =
    let s = call-shown t op key rate n draw f in
    let z : ◌≡◌ {A = ℕ} 0 1 = cc in
    omega arith
