-- What a record settles after its fields, by the cases of the code. Assumes nothing.
use Prim.Native.Nat.{ℕ}
use mathlib.Core.Path.{◌≡◌}
use mathlib.Core.Bool.{true, false, cond}
use mathlib.Core.List.{List}
use lib.ListN.{length}
use Rattle.rules.specs.Outcome.{Refusal, refused, refuse, fine}
use Rattle.rules.specs.Lines.{Code, Record}
use Rattle.rules.specs.Totals.{Summary, ◌⊞◌, no_summary}
use Rattle.rules.specs.Order.{may_follow, group_open, account_open}
use Rattle.rules.specs.Verdict.{State, own_lines}
use Rattle.std.specs.Prelude.{Some, None}
use Rattle.base_quantities.specs.declared.Place.{Place}
use Rattle.read_kept.specs.declared.Kept.{Kept}
use Rattle.read_trailers.specs.TrailerChecks.{balanced_k}
use Rattle.read_file.specs.RecordSteps.{limit_k, this_k, next_k, settled_k}

module _ (s : State) (r : Record) (c : Code) (k : Kept) where
  pub settle-long : (why : Refusal) → own_lines c (limit_k c s.limit k) r ≡ refused why → settled_k s r c k ≡ refused why
  unfolding settled_k
  settle-long why e = rw e

  module _ (l : own_lines c (limit_k c s.limit k) r ≡ fine tt) where
    pub settle-over : (p : Place) → k.past ≡ Some p → settled_k s r c k ≡ refuse 10 p.0
    unfolding settled_k
    settle-over p o = rw (l, o)

    -- with what the record adds, and the summaries with it
    module _ (o : k.past ≡ None) (t a g f : Summary) (is : t ≡ this_k c (length r) k) (ea : a ≡ s.account ⊞ t) (eg : g ≡ s.group ⊞ t) (ef : f ≡ s.file ⊞ t) where
      pub settle-wrong : (why : Refusal) → balanced_k c a g f k ≡ refused why → settled_k s r c k ≡ refused why
      unfolding settled_k
      settle-wrong why b = let w = rw (ea, eg, ef, is) at b in rw (l, w, o)

      pub settle-next : balanced_k c a g f k ≡ fine tt → (x : List Code) (limit : ℕ) (group account : Summary)
          → x ≡ may_follow c → limit ≡ limit_k c s.limit k → group ≡ cond (group_open c) g no_summary → account ≡ cond (account_open c) a no_summary
          → settled_k s r c k ≡ fine (record { expected = x; limit = limit; file = f; group = group; account = account })
      unfolding settled_k next_k
      settle-next b x limit group account ex el eg' ea' = let w = rw (ea, eg, ef, is) at b in rw (l, w, ex, el, eg', ea', ea, eg, ef, is, o)
