-- Whole numbers as decimals without leading zeros, and what a run of digits says.
-- Assumes nothing.
use Rattle.std.specs.Prelude.{◌≡◌, refl, Bool, true, false, cond, List, [], ◌∷◌, ◌++◌, ℕ, zero, suc, ◌+◌, ◌*◌, ◌/◌, ◌%◌, ◌≤◌, ◌<◌, length, get_or, ltb}
use Rattle.std.proofs.Common.{sym, ap, ◌∙◌, append_assoc, append-nil, div-add-mod', mod-lt, arith, length-append, lt-ltb, le-ltb}
use Rattle.std.proofs.Math.Nat.{div-lt_self}
use Rattle.std.proofs.Math.Decide.{dec_lt}
use Rattle.std.proofs.Math.ListN.{get_or-append}
use Rattle.fields.specs.Bytes.{counts, digit_of, digit-counts, digit-of, digit_value, digit-small}

-- ---- the definitions

-- the decimal digits of n, the first one the largest; the fuel is more than the digits
unfoldable pub digits : ℕ → ℕ → List ℕ
digits zero n = []
digits (suc fuel) n = cond (ltb n 10) ((48 + n) ∷ []) (digits fuel (n / 10) ++ ((48 + n % 10) ∷ []))

-- 01: "All numbers are u64 decimals without leading zeros"
unfoldable pub show_number : ℕ → List ℕ
show_number n = digits (suc n) n

-- what a list of digits counts after those that count acc
abbrev pub value_from : ℕ → List ℕ → ℕ
value_from acc [] = acc
value_from acc (b ∷ bs) = value_from (acc * 10 + digit_of b) bs

abbrev pub value : List ℕ → ℕ
value bs = value_from 0 bs

-- every byte passes
abbrev pub Each : (ℕ → Bool) → List ℕ → Type 0
Each p [] = Unit {0}
Each p (b ∷ bs) = (p b ≡ true) × Each p bs

-- ---- showing: the two steps

digits_step : (f g n : ℕ) → (n / 10 < f → n / 10 < g → digits f (n / 10) ≡ digits g (n / 10)) → n < suc f → n < suc g → Dec (n < 10) →
    digits (suc f) n ≡ digits (suc g) n
unfolding digits
digits_step f g n ih h k (yes p) = rw (lt-ltb n 10 p)
digits_step f g n ih h k (no p) =
    let l : 10 ≤ n = omega arith in
    let q : n / 10 < n = div-lt_self (omega arith) (omega arith) in
    rw (le-ltb n 10 l, ih (omega arith) (omega arith))

digits_same : (f g n : ℕ) → n < f → n < g → digits f n ≡ digits g n
digits_same zero g n h k = absurd (omega arith)
digits_same (suc f) zero n h k = absurd (omega arith)
digits_same (suc f) (suc g) n h k = digits_step f g n (digits_same f g (n / 10)) h k (dec_lt n 10)

pub show-small : (n : ℕ) → n < 10 → show_number n ≡ (48 + n) ∷ []
unfolding digits show_number
show-small n h = rw (lt-ltb n 10 h)

pub show-more : (n : ℕ) → 10 ≤ n → show_number n ≡ show_number (n / 10) ++ ((48 + n % 10) ∷ [])
unfolding digits show_number
show-more n h =
    let q : n / 10 < n = div-lt_self (omega arith) (omega arith) in
    rw (le-ltb n 10 h, digits_same n (suc (n / 10)) (n / 10) (omega arith) (omega arith))

-- a digit more
pub show-digit : (n d : ℕ) → 1 ≤ n → d < 10 → show_number (n * 10 + d) ≡ show_number n ++ ((48 + d) ∷ [])
show-digit n d h k =
    let q : (n * 10 + d) / 10 ≡ n = omega arith in
    let r : (n * 10 + d) % 10 ≡ d = omega arith in
    show-more (n * 10 + d) (omega arith) ∙ rw (q, r)

-- what holds of one digit, and of n where it holds of n / 10, holds of every number
pub by_digits : (P : ℕ → Type 0) → ((n : ℕ) → n < 10 → P n) → ((n : ℕ) → 10 ≤ n → P (n / 10) → P n) → (n : ℕ) → P n
by_digits P small more n = below (suc n) n (omega arith)
  where
    step : (f m : ℕ) → m < suc f → ((k : ℕ) → k < f → P k) → Dec (m < 10) → P m
    step f m h ih (yes p) = small m p
    step f m h ih (no p) =
        let q : m / 10 < m = div-lt_self (omega arith) (omega arith) in
        more m (omega arith) (ih (m / 10) (omega arith))

    below : (f m : ℕ) → m < f → P m
    below zero m h = absurd (omega arith)
    below (suc f) m h = step f m h (below f) (dec_lt m 10)

-- ---- laws of what is shown

pub each_append : (p : ℕ → Bool) (xs ys : List ℕ) → Each p xs → Each p ys → Each p (xs ++ ys)
each_append p [] ys h k = k
each_append p (x ∷ xs) ys h k = (h.0, each_append p xs ys h.1 k)

-- every byte of it is a digit
pub show-digits : (l : Bool) (n : ℕ) → Each (counts l) (show_number n)
show-digits l =
    by_digits (λ n. Each (counts l) (show_number n))
    (λ n h. rw (show-small n h) (digit-counts l n h, tt))
    (λ n h ih. rw (show-more n h) (each_append (counts l) (show_number (n / 10)) ((48 + n % 10) ∷ []) ih (digit-counts l (n % 10) (mod-lt n (omega arith)), tt)))

value-append : (acc : ℕ) (xs ys : List ℕ) → value_from acc (xs ++ ys) ≡ value_from (value_from acc xs) ys
value-append acc [] ys = refl
value-append acc (x ∷ xs) ys = value-append (acc * 10 + digit_of x) xs ys

-- reading what is shown gives it back
pub value-show : (n : ℕ) → value (show_number n) ≡ n
value-show =
    by_digits (λ n. value (show_number n) ≡ n)
    (λ n h. rw (show-small n h) (omega (arith, digit-of n h)))
    (λ n h ih.
    rw (show-more n h, value-append 0 (show_number (n / 10)) _, ih, digit-of (n % 10) (mod-lt n (omega arith))) (div-add-mod' n 10))

-- showing is one to one
pub show-injective : (m n : ℕ) → show_number m ≡ show_number n → m ≡ n
show-injective m n e = sym (value-show m) ∙ ap value e ∙ value-show n

-- digits after a number that is not 0
pub show-value-from : (n : ℕ) (bs : List ℕ) → 1 ≤ n → Each (counts false) bs → show_number (value_from n bs) ≡ show_number n ++ bs
show-value-from n [] h e = sym (append-nil (show_number n))
show-value-from n (b ∷ bs) h e =
    let d = digit-small b in
    let s : 48 + digit_of b ≡ b = omega (arith, digit_value b e.0) in
    show-value-from (n * 10 + digit_of b) bs (omega arith) e.1 ∙ rw (show-digit n (digit_of b) h (omega arith), s, append_assoc)

-- what reads as a number is that number shown: digits, of which the first is not 0 unless it is alone
pub show-value : (b : ℕ) (bs : List ℕ) → Each (counts false) (b ∷ bs) → (b ≡ 48 → bs ≡ []) → show_number (value (b ∷ bs)) ≡ b ∷ bs
show-value b bs e lone = go (dec_lt 0 (digit_of b))
  where
    s : digit_of b + 48 ≡ b
    s = digit_value b e.0

    zeroth : (cs : List ℕ) → cs ≡ [] → digit_of b ≡ 0 → b ≡ 48 → show_number (value_from (0 + digit_of b) cs) ≡ b ∷ cs
    zeroth cs n z k = rw (n, z, k) (show-small 0 (omega arith))

    go : Dec (0 < digit_of b) → show_number (value_from (0 + digit_of b) bs) ≡ b ∷ bs
    go (yes p) =
        let k : 48 + (0 + digit_of b) ≡ b = omega (arith, s) in
        show-value-from (0 + digit_of b) bs (omega arith) e.1 ∙ rw (show-small (0 + digit_of b) (omega (arith, digit-small b)), k)
    go (no p) = let k : b ≡ 48 = omega (arith, s) in zeroth bs (lone k) (omega arith) k

pub show-length : (n : ℕ) → 1 ≤ length (show_number n)
show-length =
    by_digits (λ n. 1 ≤ length (show_number n)) (λ n h. rw (show-small n h) (omega arith))
    (λ n h ih. rw (show-more n h, length-append) (omega arith))

pub show-longer : (n : ℕ) → 10 ≤ n → length (show_number n) ≡ length (show_number (n / 10)) + 1
show-longer n h = rw (show-more n h) (length-append (show_number (n / 10)) ((48 + n % 10) ∷ []))

-- the first byte of a number that is not 0
pub show-first : (n : ℕ) → 1 ≤ n → get_or (show_number n) 0 0 ≡ 48 → ⊥
show-first =
    by_digits (λ n. 1 ≤ n → get_or (show_number n) 0 0 ≡ 48 → ⊥)
    (λ n h k e. let f : 48 + n ≡ 48 = rw (show-small n h) at e in omega arith)
    (λ n h ih k e.
    let s : get_or (show_number (n / 10)) 0 0 ≡ get_or (show_number n) 0 0 =
    rw (show-more n h) (sym (get_or-append (show_number (n / 10)) _ 0 0 (show-length (n / 10)))) in
    ih (omega arith) (s ∙ e))

ten_to : ℕ → ℕ
ten_to zero = 1
ten_to (suc k) = ten_to k * 10

short-step : (k n : ℕ) → n < ten_to k * 10 * 10 → (n / 10 < ten_to k * 10 → length (show_number (n / 10)) ≤ suc k) → Dec (n < 10) →
    length (show_number n) ≤ suc (suc k)
short-step k n h ih (yes p) = rw (show-small n p) (omega arith)
short-step k n h ih (no p) =
    let l : 10 ≤ n = omega arith in
    let q = ih (omega arith) in
    rw (show-more n l, length-append) (omega arith)

short : (k n : ℕ) → n < ten_to (suc k) → length (show_number n) ≤ suc k
unfolding ten_to
short zero n h = rw (show-small n h) (omega arith)
short (suc k) n h = short-step k n h (short k (n / 10)) (dec_lt n 10)

-- a number below 2^64 has at most 20 digits
pub show-short : (n : ℕ) → n ≤ 18446744073709551615 → length (show_number n) ≤ 20
unfolding ten_to
show-short n h = short 19 n (omega arith)
