-- Document 01: the longest file, line and name, and the largest sum; and what the program judges at most. Each is said once. Assumes nothing.
use Rattle.std.specs.Prelude.{ℕ}

-- a file is 1 to 16,777,216 bytes, and so is a result
abbrev pub longest_file : ℕ
longest_file = 16_777_216

-- a line has at most 4,096 bytes without its end
abbrev pub longest_line : ℕ
longest_line = 4096

-- a name, a reference and a text that the writer takes have at most 76 bytes
abbrev pub longest_name : ℕ
longest_name = 76

-- the magnitudes of all item and detail amounts, funds left out, add up to at most this (10); no sum is beyond it either way (14)
abbrev pub most : ℕ
most = 999_999_999_999_999_999

-- the program `summary` judges at most 65,536 bytes
abbrev pub most_input : ℕ
most_input = 65_536
