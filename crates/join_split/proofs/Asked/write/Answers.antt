-- `join_split::Asked::write` meets its contract. Assumes nothing.
use Prim.Native.Nat.{ℕ, ◌+◌, ◌-◌, ◌≤◌, ◌<◌}
use native.Mathlib.Omega.{arith}
use mathlib.Core.Path.{◌≡◌, ap, subst, ◌∙◌}
use mathlib.Core.List.{◌++◌}
use borrow.Rule.Slice.PartMut.{mid_of, put_mid}
use lib.ListN.{length, take, length-take}
use Rattle.rules.specs.Bytes.{Bytes}
use Rattle.base_numerals.specs.PutBytes.{Put}
use Rattle.base_slices.specs.WroteBytes.{Wrote}
use Rattle.base_slices.proofs.WroteLaws.{wrote-first, wrote-part, wrote-last, has_room, within-rest}
use Rattle.join_groups.proofs.GroupOpens.{Opened}
use Rattle.join_split.specs.SplitAnswers.{split_result, split_groups, split_last, RestIs}
use Rattle.join_trailer.specs.declared.Trailer.{Trailer}
use Rattle.join_split.proofs.NameLaws.{header-opens}
use Rattle.join_split.proofs.SplitLaws.{result_parts}
use Rattle.join_split.proofs.Asked.write.Goals as goal

-- header and groups stand, and the 99 is left
after-groups : (name file out : Bytes) (h : ℕ) → Opened file h → length (split_result name file) ≤ length out → (r : ℕ) (out₁ : Bytes) → Put (take h file) out r out₁
    → (bytes : ℕ) (last : Trailer) (after : Bytes) → RestIs name file (mid_of r (length out₁ - r) out₁) bytes last after
    → Wrote (split_result name file) out (r + bytes) (split_last name file) (put_mid r (length out₁ - r) out₁ after)
after-groups name file out h o room r out₁ first bytes trailer after rest =
    let groups = split_groups name file in
    let last = split_last name file in
    let whole = result_parts name file h o in
    let w = wrote-first (take h file) (groups ++ last) out r out₁ (omega (arith, ap length whole, room)) first in
    subst (λ (bs : Bytes). Wrote bs out (r + bytes) last (put_mid r (length out₁ - r) out₁ after)) whole
    (wrote-part _ out r groups last out₁ bytes after w (rest.put (has_room _ out r groups last out₁ w)))

-- the 99 stays within the slice, and ends the result
stays_within : (result before : Bytes) (o : ℕ) (last out bytes : Bytes) (r : ℕ) (after : Bytes) → Wrote result before o last out
    → Put bytes (mid_of o (length out - o) out) r after → o + r ≤ length before
stays_within result before o last out bytes r after w p = omega (arith, within-rest o bytes out r after (omega (arith, w.room, w.long)) p, w.long)

pub slice_bounds-put-end : goal.slice_bounds-put-end
slice_bounds-put-end c =
    let a = c.args.self.now in
    omega (arith, (header-opens a.file.now a.header a.opens).inside, length-take a.header a.file.now)

pub overflow_add-o : goal.overflow_add-o
overflow_add-o c =
    let a = c.args.self.now in
    let w = after-groups _ _ _ _ (header-opens a.file.now a.header a.opens) c.requires _ _ c.put-o.ensures _ _ _ c.take_rest-rest.ensures in
    omega (arith, w.room)

pub slice_bounds-put-count : goal.slice_bounds-put-count
slice_bounds-put-count c =
    let a = c.args.self.now in
    let w = after-groups _ _ _ _ (header-opens a.file.now a.header a.opens) c.requires _ _ c.put-o.ensures _ _ _ c.take_rest-rest.ensures in
    omega (arith, w.room, w.long)

pub slice_bounds-put-start : goal.slice_bounds-put-start
slice_bounds-put-start c =
    let a = c.args.self.now in
    let w = after-groups _ _ _ _ (header-opens a.file.now a.header a.opens) c.requires _ _ c.put-o.ensures _ _ _ c.take_rest-rest.ensures in
    omega (arith, w.room, w.long)

pub overflow_add-o-2 : goal.overflow_add-o-2
overflow_add-o-2 c =
    let a = c.args.self.now in
    let w = after-groups _ _ _ _ (header-opens a.file.now a.header a.opens) c.requires _ _ c.put-o.ensures _ _ _ c.take_rest-rest.ensures in
    omega (arith, stays_within _ _ _ _ _ _ _ _ w c.put-o-2.ensures)

pub returns : goal.returns
returns c =
    let a = c.args.self.now in
    let w = after-groups _ _ _ _ (header-opens a.file.now a.header a.opens) c.requires _ _ c.put-o.ensures _ _ _ c.take_rest-rest.ensures in
    let last = c.line.ensures ∙ c.take_rest-rest.ensures.is_last in
    wrote-last _ _ _ _ _ _ _ w (rw last at c.put-o-2.ensures)
