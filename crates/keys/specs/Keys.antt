-- A key in words: who holds it, its length, and four words of eight bytes; which words hold just the key's bytes.
-- Assumes nothing.
use Rattle.std.specs.Prelude.{Bool, ◌&&◌, List, ℕ, ◌+◌, ◌-◌, ◌*◌, ◌^◌, min, length, get_or, leb, ltb, eqb}
use Rattle.layout.specs.Layout.{longest_key}
use Rattle.keys.specs.declared.Key.{Key}

-- ---- keys

-- eight bytes from i on, the first one lowest
abbrev pub pack : List ℕ → ℕ → ℕ
pack key i =
    get_or key i 0 + 256 * get_or key (i + 1) 0 + 65536 * get_or key (i + 2) 0 + 16777216 * get_or key (i + 3) 0 + 4294967296 * get_or key (i + 4) 0 +
    1099511627776 * get_or key (i + 5) 0 + 281474976710656 * get_or key (i + 6) 0 + 72057594037927936 * get_or key (i + 7) 0

-- "the same bytes under the other party are another key": holder is the mark of the key's party
unfoldable pub key_of : ℕ → List ℕ → Key
key_of holder key = record { holder = holder; len = length key; a = pack key 0; b = pack key 8; c = pack key 16; d = pack key 24 }

unfoldable pub same_key : Key → Key → Bool
same_key k l = eqb k.len l.len && (eqb k.a l.a && (eqb k.b l.b && (eqb k.c l.c && (eqb k.d l.d && eqb k.holder l.holder))))

-- a word with the bytes from i on, of a key of n bytes, is 0 in the bytes that the key does not have
unfoldable pub unused_zero : ℕ → ℕ → ℕ → Bool
unused_zero n i x = ltb x (256 ^ min 8 (n - i))

-- at most 32 bytes, and unused ones 0
unfoldable pub key_fits : Key → Bool
key_fits k = leb k.len longest_key &&
    (unused_zero k.len 0 k.a && (unused_zero k.len 8 k.b && (unused_zero k.len 16 k.c && unused_zero k.len 24 k.d)))
