-- The places that the walk notes and answers lie in the record. Assumes nothing.
use Prim.Native.Nat.{ℕ, ◌≤◌, zero-le}
use mathlib.Core.Path.{◌≡◌, ap, sym}
use mathlib.Core.Bool.{Bool, true, false}
use native.Mathlib.Omega.{arith}
use Rattle.rules.specs.Bytes.{Bytes}
use Rattle.rules.specs.Outcome.{fine, ◌>>=◌, check, place_of}
use Rattle.rules.specs.Grammar.{Judged, bad, good, take_next, next_kind, may_lack}
use Rattle.rules.proofs.Binds.{refused-fine, fine-same}
use Rattle.read_wanted.specs.Wants.{purpose}
use Rattle.read_kept.specs.declared.Kept.{Kept}
use Rattle.read_kept.specs.KeepFields.{nothing_kept, keep_read, Within}
use Rattle.read_kept.proofs.KeptBounds.{nothing-within, read-within}
use Rattle.base_refusals.specs.declared.Refusal.{Refusal}
use Rattle.std.specs.Prelude.{Result, Ok, Err}
use Rattle.read_walk.specs.WalkKept.{WalkK, point, walk_after_k, taken_k, end_k}
use Rattle.read_walk.specs.WalkAnswers.{walked_of, Bounds}

-- in a record of n bytes, after magnitudes m
pub record Fits (n m : ℕ) (w : WalkK) : Type 0 where
  pub kept : Within n m w.kept
  pub slash : w.last_slash ≤ n

-- after the same magnitudes
pub fits-same : (n m k : ℕ) (w : WalkK) → m ≡ k → Fits n m w → Fits n k w
fits-same n m k w e f = rw (sym e) f

module _ (n m : ℕ) where
  pub start_fits : (w : WalkK) → w.kept ≡ nothing_kept m → w.last_slash ≡ 0 → Fits n m w
  start_fits w e h = record { kept = rw e (nothing-within n m); slash = rw h zero-le }

  after-fits : (j : Judged) (p : ℕ) (k : Kept) (w v : WalkK) → walk_after_k j p k w ≡ fine v → Within n m k → Fits n m w → Fits n m v
  unfolding walk_after_k
  after-fits (bad x) p k w v e h f = absurd (refused-fine _ v e)
  after-fits (good next) p k w v e h f = rw (← fine-same (point next k w.last_slash) v e) (record { kept = h; slash = f.slash })

  pub taken-fits : (p : ℕ) (bs : Bytes) (w v : WalkK) → taken_k p bs w ≡ fine v → p ≤ n → Fits n m w → Fits n m v
  unfolding taken_k
  taken-fits p bs w v e h f =
      after-fits (take_next w.wanted bs) p (keep_read (purpose (next_kind w.wanted)) w.kept p bs) w v e (read-within n m (purpose (next_kind w.wanted)) w.kept p bs h f.kept) f

  end_by : (r : Result Kept Refusal) (t : Bool) (w : WalkK) → walked_of r ≡ (check t 8 w.last_slash >>= λ _. fine w.kept) → Fits n m w → Bounds n m r
  end_by (Err why) true w e f = absurd (refused-fine _ w.kept e)
  end_by (Err why) false w e f = let q : why.place.0 ≡ w.last_slash = ap place_of e in omega (arith, f.slash)
  end_by (Ok k) true w e f = rw (fine-same k w.kept e) f.kept
  end_by (Ok k) false w e f = absurd (refused-fine _ k (sym e))

  pub end-bounds : (r : Result Kept Refusal) (w : WalkK) → walked_of r ≡ end_k w → Fits n m w → Bounds n m r
  unfolding end_k
  end-bounds r w e f = end_by r (may_lack w.wanted) w e f
