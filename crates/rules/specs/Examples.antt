-- Document 01, "Examples on both sides": K1 to K12, one computed list, and one proof over it. Assumes nothing.
use Rattle.std.specs.Prelude.{ℕ, Bool, true, ◌&&◌, List, [], ◌∷◌, ◌++◌, T, replicate}
use Prim.Native.String.{String}
use Rattle.rules.specs.Bytes.{Bytes, bytes, letter, LF, is_empty, all, same_bytes, starts_with, one_of, trimmed_before, trimmed}
use Rattle.rules.specs.Outcome.{moved}
use Rattle.rules.specs.Lines.{longer_line, longer_first, lines_of, begins, code_in, code_of, line_before, records_of, record_size, line_bytes, record_bytes, file_records}
use Rattle.rules.specs.Cells.{lengthened, cells_from, cells_of, leading_blanks}
use Rattle.rules.specs.Numbers.{digits, number_from, without_sign, decimal_within, decimal, total_bytes}
use Rattle.rules.specs.Amounts.{amount_in}
use Rattle.rules.specs.Dates.{days_of, is_date, is_time}
use Rattle.rules.specs.TypeCodes.{class_of, type_class}
use Rattle.rules.specs.Grammar.{fields_of, is_currency, is_unsigned, is_signed, is_length, funds_of, pairs, pairs_of, piece_of, judged, and_then, take_next}
use Rattle.rules.specs.Records.{walk_after, taken, past_slash, taken_to, walk_cells, walk_lines, walk_record, the}
use Rattle.rules.specs.Totals.{◌⊞◌, amount_of, sum_of, adding, of_record, bounded_from, right_total, right_count, right_records, sum_within, balanced}
use Rattle.rules.specs.Order.{among}
use Rattle.rules.specs.Verdict.{not_longer, all_allowed, coded, good_line, good_lines, none_longer, in_order, read_record, limit_given, limit_after, own_lines, state_after, settled, step, run, judge}
use Rattle.rules.specs.Parts.{cut_at, in_groups, header_in, groups_in, fields_in, first_fields, receiver_of}
use Rattle.rules.specs.Combine.{of_coded, summary_of, summary_of_all, fresh_trailer, with_trailer, concat, limit_of, lines_within, fitting, combined, Answer, answered, which_file, combine}
use Rattle.rules.specs.Split.{is_name, groups_for, split_out, split}
use Rattle.rules.specs.Report.{words, as_line, verdict_words, report}

-- lines of text, each with LF
unfoldable pub lines : List String → Bytes
lines [] = []
lines (s ∷ ss) = bytes s ++ (LF ∷ lines ss)

-- the line that the program writes for a file
unfoldable pub verdict : List String → Bytes
verdict file = report (lines file)

-- an answer: its number, place, file and length, then the output slice
unfoldable pub written : Answer → Bytes
written a = words (decimal a.refusal.number ∷ decimal a.refusal.place ∷ decimal a.which ∷ decimal a.len ∷ a.output ∷ [])

-- an output slice of n bytes, all dots
unfoldable pub dots : ℕ → Bytes
dots n = replicate n (letter ".")

pub record Example : Type 0 where
  pub gives : Bytes
  pub expected : Bytes

infix 70 ◌⇒◌
abbrev pub ◌⇒◌ : Bytes → Bytes → Example
◌⇒◌ g e = record { gives = g; expected = e }

unfoldable pub agree : List Example → Bool
agree [] = true
agree (e ∷ es) = same_bytes e.gives e.expected && agree es

-- K1's lines
abbrev pub h1 : String
h1 = "01,122099999,123456789,040621,0200,1,,,2/"

abbrev pub g1 : String
g1 = "02,031001234,122099999,1,040620,2359,,2/"

abbrev pub a1 : String
a1 = "03,0975312468,USD,010,-500,,/"

abbrev pub d1 : String
d1 = "16,165,1500,1,DD1620,,DEALER PAYMENTS"

abbrev pub t1 : String
t1 = "49,1000,3/"

abbrev pub u1 : String
u1 = "98,1000,1,5/"

abbrev pub v1 : String
v1 = "99,1000,1,7/"

unfoldable pub k1 : List String
k1 = h1 ∷ g1 ∷ a1 ∷ d1 ∷ t1 ∷ u1 ∷ v1 ∷ []

unfoldable pub examples : List Example
examples =
    -- K1
    verdict k1 ⇒ lines ("ok 1000 1 1 1 7" ∷ [])
    -- K2: split for 031001234 is K1 itself; it has 188 bytes
    ∷ written (split (bytes "031001234") (lines k1) (dots 190)) ⇒ (bytes "0 0 0 188 " ++ lines k1 ++ bytes "..")
    -- K3: split for 31001234
    ∷ written (split (bytes "31001234") (lines k1) (dots 54)) ⇒ (bytes "0 0 0 52 " ++ lines (h1 ∷ "99,0,0,2/" ∷ []) ++ bytes "..")
    -- K4: K1 with itself
    ∷ written (combine (lines k1) (lines k1) (dots 324)) ⇒ (bytes "0 0 0 322 " ++ lines (h1 ∷ g1 ∷ a1 ∷ d1 ∷ t1 ∷ u1 ∷ g1 ∷ a1 ∷ d1 ∷ t1 ∷ u1 ∷ "99,2000,2,12/" ∷ []) ++ bytes "..")
    -- K5
    ∷ verdict (h1 ∷ g1 ∷ a1 ∷ d1 ∷ "49,-2000,3/" ∷ u1 ∷ v1 ∷ []) ⇒ lines ("refused 11 154" ∷ [])
    -- K6
    ∷ verdict (h1 ∷ g1 ∷ a1 ∷ d1 ∷ "49,1000,2/" ∷ u1 ∷ v1 ∷ []) ⇒ lines ("refused 13 159" ∷ [])
    -- K7
    ∷ verdict (h1 ∷ g1 ∷ u1 ∷ v1 ∷ []) ⇒ lines ("refused 6 83" ∷ [])
    -- K8
    ∷ verdict ("01,122099999,123456789,040229,0200,1,,,2/" ∷ g1 ∷ a1 ∷ d1 ∷ t1 ∷ u1 ∷ v1 ∷ []) ⇒ lines ("ok 1000 1 1 1 7" ∷ [])
    ∷ verdict ("01,122099999,123456789,050229,0200,1,,,2/" ∷ g1 ∷ a1 ∷ d1 ∷ t1 ∷ u1 ∷ v1 ∷ []) ⇒ lines ("refused 8 23" ∷ [])
    -- K9
    ∷ verdict ("01,122099999,123456789,040621,2400,1,,,2/" ∷ g1 ∷ a1 ∷ d1 ∷ t1 ∷ u1 ∷ v1 ∷ []) ⇒ lines ("ok 1000 1 1 1 7" ∷ [])
    ∷ verdict ("01,122099999,123456789,040621,9999,1,,,2/" ∷ g1 ∷ a1 ∷ d1 ∷ t1 ∷ u1 ∷ v1 ∷ []) ⇒ lines ("ok 1000 1 1 1 7" ∷ [])
    ∷ verdict ("01,122099999,123456789,040621,2401,1,,,2/" ∷ g1 ∷ a1 ∷ d1 ∷ t1 ∷ u1 ∷ v1 ∷ []) ⇒ lines ("refused 8 30" ∷ [])
    ∷ verdict ("01,122099999,123456789,040621,1260,1,,,2/" ∷ g1 ∷ a1 ∷ d1 ∷ t1 ∷ u1 ∷ v1 ∷ []) ⇒ lines ("refused 8 30" ∷ [])
    -- K10
    ∷ verdict ("01,122099999,123456789,040621,0200,1,48,,2/" ∷ g1 ∷ a1 ∷ d1 ∷ t1 ∷ u1 ∷ v1 ∷ []) ⇒ lines ("ok 1000 1 1 1 7" ∷ [])
    ∷ verdict ("01,122099999,123456789,040621,0200,1,47,,2/" ∷ g1 ∷ a1 ∷ d1 ∷ t1 ∷ u1 ∷ v1 ∷ []) ⇒ lines ("refused 8 37" ∷ [])
    -- K11
    ∷ verdict (h1 ∷ g1 ∷ "03,0975312468,USD,165,-500,,/" ∷ d1 ∷ t1 ∷ u1 ∷ v1 ∷ []) ⇒ lines ("refused 8 105" ∷ [])
    -- K12
    ∷ verdict (h1 ∷ g1 ∷ "03,0975312468,USD,010,-999999999999999998,,/" ∷ "16,165,1,1,DD1620,,DEALER PAYMENTS" ∷ "49,-999999999999999997,3/" ∷ "98,-999999999999999997,1,5/" ∷ "99,-999999999999999997,1,7/" ∷ []) ⇒ lines ("ok -999999999999999997 1 1 1 7" ∷ [])
    ∷ verdict (h1 ∷ g1 ∷ "03,0975312468,USD,010,-999999999999999998,,/" ∷ "16,165,2,1,DD1620,,DEALER PAYMENTS" ∷ t1 ∷ u1 ∷ v1 ∷ []) ⇒ lines ("refused 10 135" ∷ [])
    ∷ []

pub examples-agree : T (agree examples)
unfolding
    lines words verdict written dots agree k1 examples
    is_empty all same_bytes starts_with one_of trimmed_before trimmed moved
    longer_line longer_first lines_of begins code_in code_of line_before records_of record_size line_bytes record_bytes file_records
    lengthened cells_from cells_of leading_blanks
    digits number_from without_sign amount_in decimal_within decimal total_bytes
    days_of is_date is_time class_of type_class
    fields_of is_currency is_unsigned is_signed is_length funds_of pairs pairs_of piece_of judged and_then take_next
    walk_after taken past_slash taken_to walk_cells walk_lines walk_record the
    ◌⊞◌ amount_of sum_of adding of_record bounded_from right_total right_count right_records sum_within balanced
    among not_longer all_allowed coded good_line good_lines none_longer in_order read_record limit_given limit_after own_lines state_after settled step run judge
    cut_at in_groups header_in groups_in fields_in first_fields receiver_of
    of_coded summary_of summary_of_all fresh_trailer with_trailer concat limit_of lines_within fitting combined answered which_file combine
    is_name groups_for split_out split
    as_line verdict_words report
examples-agree = tt
