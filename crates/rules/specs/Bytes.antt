-- Document 01: the bytes that it names, and tests on bytes. Assumes nothing.
use Rattle.std.specs.Prelude.{ℕ, Bool, true, false, cond, not, ◌&&◌, List, [], ◌∷◌, leb, eqb}
use Prim.Native.Char.{Char, code}
use Prim.Native.String.{String}

abbrev pub Bytes : Type 0
Bytes = List ℕ

-- a letter, digit or sign as its byte, and a text as its bytes
abbrev pub letter : Char → ℕ
letter c = code c

abbrev pub bytes : String → Bytes
bytes String.[] = []
bytes (String.◌∷◌ c s) = letter c ∷ bytes s

abbrev pub LF : ℕ
LF = 10

abbrev pub CR : ℕ
CR = 13

abbrev pub blank : ℕ
blank = letter " "

abbrev pub plus : ℕ
plus = letter "+"

abbrev pub comma : ℕ
comma = letter ","

abbrev pub minus : ℕ
minus = letter "-"

abbrev pub slash : ℕ
slash = letter "/"

-- lo ≤ n ≤ hi
abbrev pub between : ℕ → ℕ → ℕ → Bool
between lo hi n = leb lo n && leb n hi

-- all in 0x20 to 0x7E
abbrev pub allowed : ℕ → Bool
allowed b = between 0x20 0x7E b

unfoldable pub is_empty : Bytes → Bool
is_empty [] = true
is_empty (b ∷ bs) = false

-- the test holds of every byte
unfoldable pub all : (ℕ → Bool) → Bytes → Bool
all test [] = true
all test (b ∷ bs) = test b && all test bs

-- a byte that may stand in a field, and bytes that may: no comma, slash or byte not allowed
abbrev pub in_field : ℕ → Bool
in_field b = allowed b && (not (eqb b comma) && not (eqb b slash))

abbrev pub clean : Bytes → Bool
clean bs = all in_field bs

-- equal byte for byte
unfoldable pub same_bytes : Bytes → Bytes → Bool
same_bytes [] [] = true
same_bytes [] (c ∷ cs) = false
same_bytes (b ∷ bs) [] = false
same_bytes (b ∷ bs) (c ∷ cs) = eqb b c && same_bytes bs cs

-- the first byte is b
unfoldable pub starts_with : ℕ → Bytes → Bool
starts_with b [] = false
starts_with b (c ∷ cs) = eqb c b

-- one byte from lo to hi
unfoldable pub one_of : ℕ → ℕ → Bytes → Bool
one_of lo hi [] = false
one_of lo hi (b ∷ []) = between lo hi b
one_of lo hi (b ∷ c ∷ bs) = false

-- one byte, this one
abbrev pub just : ℕ → Bytes → Bool
just b bs = one_of b b bs

-- a byte before bytes less trailing blanks
unfoldable pub trimmed_before : ℕ → Bytes → Bytes
trimmed_before b [] = cond (eqb b blank) [] (b ∷ [])
trimmed_before b (c ∷ cs) = b ∷ c ∷ cs

-- the bytes less trailing blanks
unfoldable pub trimmed : Bytes → Bytes
trimmed [] = []
trimmed (b ∷ bs) = trimmed_before b (trimmed bs)
