-- Lengths that the code finds: of the first line without its end, of its end, of the run of allowed bytes; and the first record of lines. They stand for the first of
-- `lines_of` and of `records_of` (rules/specs/Lines.antt); joined by `first_of` (proofs/LineLengthLaws.antt) and `one-record` (proofs/OneRecord.antt). Assumes nothing.
use Rattle.std.specs.Prelude.{ℕ, suc, ◌+◌, Bool, true, false, cond, not, List, [], ◌∷◌, eqb, length, take, drop}
use Rattle.rules.specs.Bytes.{Bytes, LF, CR, blank, between}
use Rattle.rules.specs.Lines.{LineEnd, lacking, lf, crlf, end_bytes, Line, begins, continuation, Record}

abbrev pub begins_lf : Bytes → Bool
begins_lf [] = false
begins_lf (b ∷ bs) = eqb b LF

-- the line end that stands at a byte with these bytes after it, by the tests LF, CR, LF after it; lacking: none, the byte is the line's
abbrev pub end_by : Bool → Bool → Bool → LineEnd
end_by true cr next = lf
end_by false true true = crlf
end_by false true false = lacking
end_by false false next = lacking

-- the line end in front
abbrev pub end_of : Bytes → LineEnd
end_of [] = lacking
end_of (b ∷ bs) = end_by (eqb b LF) (eqb b CR) (begins_lf bs)

-- there is one
abbrev pub is_line_end : LineEnd → Bool
is_line_end lacking = false
is_line_end lf = true
is_line_end crlf = true

abbrev pub suc_unless : Bool → ℕ → ℕ
suc_unless true n = 0
suc_unless false n = suc n

-- how many bytes stand before the first that p stops at; p sees the byte and the bytes after it
unfoldable pub run : (ℕ → Bytes → Bool) → Bytes → ℕ
run p [] = 0
run p (b ∷ bs) = suc_unless (p b bs) (run p bs)

-- a line's end stands at this byte
abbrev pub is_end : ℕ → Bytes → Bool
is_end b bs = is_line_end (end_of (b ∷ bs))

-- this byte is below a blank or above the highest
abbrev pub outside : ℕ → ℕ → Bool
outside high b = not (between blank high b)

abbrev pub stops_at : ℕ → ℕ → Bytes → Bool
stops_at high b bs = outside high b

-- the first line's length without its end; the length of the line end in front; the first line's length with its end
abbrev pub body_len : Bytes → ℕ
body_len xs = run is_end xs

abbrev pub end_len : Bytes → ℕ
end_len xs = length (end_bytes (end_of xs))

abbrev pub line_len : Bytes → ℕ
line_len xs = body_len xs + end_len (drop (body_len xs) xs)

-- how many bytes in front are allowed
abbrev pub plain_len : Bytes → ℕ
plain_len xs = run (stops_at 126) xs

-- the first line, of one byte or more
abbrev pub first_line : Bytes → Line
first_line xs = record { body = take (body_len xs) xs; line_end = end_of (drop (body_len xs) xs) }

-- the 88 lines in front, and the first record: a line with all 88 lines after it
unfoldable pub further : List Line → List Line
further [] = []
further (l ∷ ls) = cond (begins continuation l) (l ∷ further ls) []

unfoldable pub first_record : List Line → Record
first_record [] = []
first_record (l ∷ ls) = l ∷ further ls
