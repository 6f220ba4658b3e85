-- What `record_at` answers at each place that the code reaches. Assumes nothing.
use Prim.Native.Nat.{ℕ, ◌+◌, ◌-◌, ◌≤◌, ◌<◌}
use native.Mathlib.Omega.{arith}
use mathlib.Core.Path.{◌≡◌, refl, sym, ap, ◌∙◌}
use mathlib.Core.List.{◌∷◌}
use mathlib.Core.Option.{none, some}
use lib.ListN.{length, take, drop, length-drop, drop_of_length-le}
use lib.Seq.{drop-drop, length-take-le}
use Rattle.rules.specs.Bytes.{Bytes}
use Rattle.rules.specs.Outcome.{refused, fine, ◌>>=◌}
use Rattle.rules.specs.Lines.{lines_of, code_of, records_of, record_size, file_records}
use Rattle.rules.specs.Verdict.{coded}
use Rattle.rules.specs.HandedOut.{first_coded, record_at, record_answer}
use Rattle.base_codes.specs.declared.Code as code
use Rattle.base_codes.specs.CodeMeaning.{code_meant}
use Rattle.read_lines.specs.LineLengths.{line_len, first_line, further, first_record}
use Rattle.read_lines.proofs.LineLengthLaws.{first_of}
use Rattle.read_lines.proofs.LineLaws.{record-start}
use Rattle.read_lines.proofs.OneRecord.{first_part, one-record, lines-size}
use Rattle.std.specs.Prelude.{Ok, Err}
use Rattle.base_refusals.specs.declared.Refusal.{Refusal}
use Rattle.base_refusals.specs.declared.Reason.TheVariants as reasons
use Rattle.base_refusals.specs.RefusalMeaning.{refusal_meant}
use Rattle.part_records.specs.RecordsFound.{Finds}

module _ (file : Bytes) (start : ℕ) where
  abbrev there : Bytes
  there = drop start file

  -- refused
  refused-finds : (why : Refusal) → record_at file start ≡ refused (refusal_meant why) → Finds file start (Err why)
  unfolding record_answer
  refused-finds why e = record { answer = sym (ap record_answer e); outcome = e; inside = tt }

  -- past the end
  pub past_finds : length file ≤ start → Finds file start (Err (record { reason = reasons.NoSuchPart; place = record { 0 = 0 } }))
  unfolding record_at first_coded file_records records_of lines_of
  past_finds h = refused-finds _ (rw (drop_of_length-le file {i = start} h))

  module _ (h : start < length file) where
    some_byte : 0 < length there
    some_byte = omega (arith, length-drop start file)

    -- the line that starts there decides
    pub by_code : record_at file start ≡ (coded start (first_line there) >>= λ c. fine (record { code = c; lines = first_record (lines_of there) }))
    unfolding record_at first_coded file_records first_record
    by_code = rw (one-record there (record_size (first_record (lines_of there))) refl some_byte, first_of there some_byte)

    pub uncoded-finds : none ≡ code_of (first_line there) → Finds file start (Err (record { reason = reasons.NoRecordCode; place = record { 0 = start } }))
    unfolding coded
    uncoded-finds e = refused-finds _ (by_code ∙ rw (← e))

    -- n: where the next line starts; it is followed by `lines` 88 lines up to `end`
    module _ (c : code.Code) (e : some (code_meant c) ≡ code_of (first_line there)) (n lines end : ℕ) (hn : n ≡ start + line_len there)
        (hl : lines ≡ length (further (lines_of (drop n file)))) (he : end ≡ n + record_size (further (lines_of (drop n file)))) (within : end ≤ length file) where
      first : first_record (lines_of there) ≡ first_line there ∷ further (lines_of (drop n file))
      unfolding first_record
      first =
          let q : drop (line_len there) there ≡ drop n file = drop-drop (line_len there) start file ∙ ap (λ (i : ℕ). drop i file) (sym hn) in
          rw (first_of there some_byte, q)

      abbrev size : ℕ
      size = end - start

      size_is : size ≡ record_size (first_record (lines_of there))
      size_is = omega (arith, record-start file start n hn, he)

      part-is : lines_of (take size there) ≡ first_record (lines_of there)
      part-is = first_part there size size_is some_byte

      outcome-is : record_at file start ≡ fine (record { code = code_meant c; lines = lines_of (take size there) })
      unfolding coded
      outcome-is = by_code ∙ rw (← e, part-is)

      count-is : lines + 1 ≡ length (lines_of (take size there))
      count-is = rw (part-is, first) (omega (arith, hl))

      pub coded-finds : start ≤ end → Finds file start (Ok (record { code = c; lines = record { 0 = lines + 1 }; length = size }))
      unfolding record_answer
      coded-finds low =
          let length-is : record_size (lines_of (take size there)) ≡ size = lines-size (take size there) ∙ length-take-le size there (omega (arith, length-drop start file)) in
          record { answer = sym (ap record_answer outcome-is ∙ rw (length-is, ← count-is)); outcome = outcome-is; inside = omega arith }
