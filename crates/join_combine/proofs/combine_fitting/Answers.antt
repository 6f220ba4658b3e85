-- `join_combine::combine_fitting` meets its contract. Assumes nothing.
use Prim.Native.Nat.{ℕ, ◌+◌, ◌-◌, ◌≤◌, min}
use native.Mathlib.Omega.{arith}
use mathlib.Core.Path.{◌≡◌, sym, ap, ◌∙◌}
use mathlib.Core.List.{◌++◌}
use lib.ListN.{length, take, drop, length-take}
use Rattle.std.proofs.lemmas.Result.{err_from_is_err_and}
use Rattle.rules.specs.Bytes.{Bytes}
use Rattle.rules.specs.Numbers.{Sum, ◌⊕◌}
use Rattle.rules.specs.Lines.{lines_of, record_size}
use Rattle.rules.specs.Limits.{longest_file}
use Rattle.base_quantities.specs.QuantityMeanings.{sum_meant, most_records}
use Rattle.base_numerals.proofs.PutLaws.{rest-is}
use Rattle.read_lines.specs.LineLengths.{first_record}
use Rattle.read_file.specs.declared.GoodFile.{GoodFile}
use Rattle.read_file.specs.FileAnswers.{IsGood}
use Rattle.join_trailer.specs.FreshTrailer.{last_line}
use Rattle.join_trailer.proofs.TrailerLengths.{in-front}
use Rattle.join_trailer.proofs.FitsLaws.{not-fitting, written, room-says, part-most}
use Rattle.join_combine.specs.CombineAnswers.{combined_result, combined_fitting}
use Rattle.join_combine.proofs.CombineLaws.{refused-told, short, last-inside, header-first, result-is, result-size}
use Rattle.join_combine.proofs.combine_fitting.Goals as goal

-- the result by its three parts, and its length, where its 99 is put from the numbers that the code counts
module _ (a b : Bytes) (x y : GoodFile) (p : IsGood x a) (q : IsGood y b) (h : ℕ) (e : h ≡ record_size (first_record (lines_of b)))
    (total : Sum) (adds : total ≡ sum_meant x.summary.total ⊕ sum_meant y.summary.total) (n m : ℕ)
    (left : n ≡ (x.summary.records.0 + y.summary.records.0)
    - (length (lines_of (take (length a - x.last.0) (drop x.last.0 a))) + length (lines_of (take h b)) + length (lines_of (take (length b - y.last.0) (drop y.last.0 b)))))
    (more : m ≡ min (n + 1) most_records) (last : Bytes) (is : last ≡ last_line total (x.summary.groups.0 + y.summary.groups.0) m) where
  whole : take x.last.0 a ++ (take (y.last.0 - h) (drop h b) ++ last) ≡ combined_result a b
  whole =
      let la = ap (λ (xs : Bytes). length (lines_of xs)) (rest-is x.last.0 a) in
      let lb = ap (λ (xs : Bytes). length (lines_of xs)) (rest-is y.last.0 b) in
      rw is (result-is a b x y p q h e total m adds (omega (arith, left, more, la, lb, p.records, q.records)))

  size : (x.last.0 + (y.last.0 - h)) + length last ≡ length (combined_result a b)
  size = omega (arith, ap length whole, result-size a b x y p q h e last)

-- ---- the parts that are counted

pub slice_bounds-records_left-count : goal.slice_bounds-records_left-count
slice_bounds-records_left-count c = let a = c.args.a.now in last-inside a.bytes.now a.good a.is_good

pub slice_bounds-records_left-start : goal.slice_bounds-records_left-start
slice_bounds-records_left-start c = let a = c.args.a.now in last-inside a.bytes.now a.good a.is_good

pub slice_bounds-records_left-end-2 : goal.slice_bounds-records_left-end-2
slice_bounds-records_left-end-2 c =
    let b = c.args.b.now in
    omega (arith, header-first b.bytes.now b.good b.is_good c.args.header c.requires.0, last-inside b.bytes.now b.good b.is_good, length-take c.args.header b.bytes.now)

pub slice_bounds-records_left-count-2 : goal.slice_bounds-records_left-count-2
slice_bounds-records_left-count-2 c = let b = c.args.b.now in last-inside b.bytes.now b.good b.is_good

pub slice_bounds-records_left-start-2 : goal.slice_bounds-records_left-start-2
slice_bounds-records_left-start-2 c = let b = c.args.b.now in last-inside b.bytes.now b.good b.is_good

pub records_left-records-requires : goal.records_left-records-requires
records_left-records-requires c =
    let a = c.args.a.now in
    let b = c.args.b.now in
    let a-short = short a.bytes.now a.good a.is_good in
    let b-short = short b.bytes.now b.good b.is_good in (
      a.is_good.records,
      b.is_good.records,
      part-most longest_file _ _ _ a-short,
      omega (arith, b-short, length-take c.args.header b.bytes.now),
      part-most longest_file _ _ _ b-short,
    )

-- ---- the length

pub overflow_sub-length : goal.overflow_sub-length
overflow_sub-length c = let b = c.args.b.now in header-first b.bytes.now b.good b.is_good c.args.header c.requires.0

pub overflow_add-length : goal.overflow_add-length
overflow_add-length c =
    let a = c.args.a.now in
    let b = c.args.b.now in
    omega (arith, last-inside a.bytes.now a.good a.is_good, last-inside b.bytes.now b.good b.is_good, short a.bytes.now a.good a.is_good, short b.bytes.now b.good b.is_good)

pub overflow_add-length-2 : goal.overflow_add-length-2
overflow_add-length-2 c =
    let a = c.args.a.now in
    let b = c.args.b.now in
    let r = c.fresh_trailer-last.result in
    omega (
      arith,
      last-inside a.bytes.now a.good a.is_good,
      last-inside b.bytes.now b.good b.is_good,
      short a.bytes.now a.good a.is_good,
      short b.bytes.now b.good b.is_good,
      ap length c.line-last.ensures,
      length-take r.length r.bytes,
      c.fresh_trailer-last.ensures.1,
    )

pub returns-in_err-fits : goal.returns-in_err-fits
unfolding combined_fitting
returns-in_err-fits c =
    let a = c.args.a.now in
    let b = c.args.b.now in
    let last = c.line-last.ensures ∙ in-front _ _ c.fresh_trailer-last.ensures.0 in
    let s = size a.bytes.now b.bytes.now a.good b.good a.is_good b.is_good c.args.header c.requires.0 _ c.requires.1 _ _ c.records_left-records.ensures c.add.ensures _ last in
    let p = err_from_is_err_and c.from_residual.result c.from_residual.ensures.1 in
    rw (p.1, p.2)
    (refused-told _ c.args.out.now ∙ not-fitting (combined_result a.bytes.now b.bytes.now) c.args.out.now 0 _ (rw s at c.in_err-fits.ensures))

-- ---- it fits

pub slice_bounds-put_three-end : goal.slice_bounds-put_three-end
slice_bounds-put_three-end c =
    let a = c.args.a.now in
    omega (arith, last-inside a.bytes.now a.good a.is_good, length-take a.good.last.0 a.bytes.now)

pub slice_bounds-put_three-count : goal.slice_bounds-put_three-count
slice_bounds-put_three-count c = let b = c.args.b.now in header-first b.bytes.now b.good b.is_good c.args.header c.requires.0

pub slice_bounds-put_three-start : goal.slice_bounds-put_three-start
slice_bounds-put_three-start c = let b = c.args.b.now in header-first b.bytes.now b.good b.is_good c.args.header c.requires.0

pub slice_bounds-put_three-end-2 : goal.slice_bounds-put_three-end-2
slice_bounds-put_three-end-2 c = let b = c.args.b.now in last-inside b.bytes.now b.good b.is_good

pub put_three-requires : goal.put_three-requires
put_three-requires c =
    let a = c.args.a.now in
    let b = c.args.b.now in
    let last = c.line-last.ensures ∙ in-front _ _ c.fresh_trailer-last.ensures.0 in
    let w = whole a.bytes.now b.bytes.now a.good b.good a.is_good b.is_good c.args.header c.requires.0 _ c.requires.1 _ _ c.records_left-records.ensures c.add.ensures _ last in
    let s = size a.bytes.now b.bytes.now a.good b.good a.is_good b.is_good c.args.header c.requires.0 _ c.requires.1 _ _ c.records_left-records.ensures c.add.ensures _ last in
    let fits = room-says (length (combined_result a.bytes.now b.bytes.now)) (length c.args.out.now) (rw s at c.in_ok-fits.ensures) in
    omega (arith, ap length w, fits.1)

pub returns : goal.returns
unfolding combined_fitting
returns c =
    let a = c.args.a.now in
    let b = c.args.b.now in
    let last = c.line-last.ensures ∙ in-front _ _ c.fresh_trailer-last.ensures.0 in
    let w = whole a.bytes.now b.bytes.now a.good b.good a.is_good b.is_good c.args.header c.requires.0 _ c.requires.1 _ _ c.records_left-records.ensures c.add.ensures _ last in
    let s = size a.bytes.now b.bytes.now a.good b.good a.is_good b.is_good c.args.header c.requires.0 _ c.requires.1 _ _ c.records_left-records.ensures c.add.ensures _ last in
    let fits = room-says _ _ (rw s at c.in_ok-fits.ensures) in
    written (combined_result a.bytes.now b.bytes.now) c.args.out.now 0 fits.0 fits.1 c.put_three.result c.put_three.new.out (rw w at c.put_three.ensures)
