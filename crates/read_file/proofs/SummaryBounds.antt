-- The sums and counts stay in range: the file's grow by a record's, and the open group and account are parts of the file. Assumes nothing.
use Prim.Native.Nat.{ℕ, ◌+◌, ◌≤◌, ◌<◌}
use mathlib.Core.Path.{◌≡◌, ap}
use mathlib.Core.Bool.{Bool, true, false, cond}
use native.Mathlib.Omega.{arith}
use Rattle.rules.specs.Numbers.{Sum, magnitudes}
use Rattle.rules.specs.Limits.{most, longest_file}
use Rattle.rules.specs.Lines.{Code, same_code, group_header, account_header, detail}
use Rattle.rules.specs.Totals.{◌⊞◌, adding, no_summary}
use Rattle.rules.specs.Totals as totals
use Rattle.base_totals.specs.SummaryMeaning.{summary_meant, Small}
use Rattle.read_file.specs.FileMeanings.{Below, Counted, Held}
use Rattle.base_totals.specs.declared.Summary.{Summary}
use Rattle.read_file.specs.declared.state.State.{State}

-- ---- in range

pub below-small : (a b : Summary) → Below a b → Small b → Small a
below-small a b l h =
    record {
      pluses = omega (arith, l.pluses, h.pluses);
      minuses = omega (arith, l.minuses, h.minuses);
      groups = omega (arith, l.groups, h.groups);
      accounts = omega (arith, l.accounts, h.accounts);
      details = omega (arith, l.details, h.details);
      records = omega (arith, l.records, h.records);
    }

pub file-small : (s : State) → Held s → s.file.records.0 ≤ longest_file → Small s.file
file-small s h r =
    record {
      pluses = omega (arith, h.bound);
      minuses = omega (arith, h.bound);
      groups = omega (arith, h.counted.groups);
      accounts = omega (arith, h.counted.accounts);
      details = omega (arith, h.counted.details);
      records = omega arith;
    }

-- ---- what one record adds

one-most : (t : Bool) → cond t 1 0 ≤ 1
one-most true = omega arith
one-most false = omega arith

module _ (c : Code) (a : Sum) (n : ℕ) (t : Summary) (e : summary_meant t ≡ adding c a n) where
  this-counted : 0 < n → Counted t
  unfolding adding
  this-counted h =
      let l : t.records.0 ≡ n = ap (λ (m : totals.Summary). m.records) e in
      record {
        groups = rw (ap (λ (m : totals.Summary). m.groups) e) (omega (arith, one-most (same_code c group_header)));
        accounts = rw (ap (λ (m : totals.Summary). m.accounts) e) (omega (arith, one-most (same_code c account_header)));
        details = rw (ap (λ (m : totals.Summary). m.details) e) (omega (arith, one-most (same_code c detail)));
      }

  this-sums : (t.total.0 ≡ a.pluses) × (t.total.1 ≡ a.minuses) × (t.records.0 ≡ n)
  unfolding adding
  this-sums = (ap (λ (m : totals.Summary). m.sum.pluses) e, ap (λ (m : totals.Summary). m.sum.minuses) e, ap (λ (m : totals.Summary). m.records) e)

  pub this-small : 0 < n → n ≤ longest_file → magnitudes a ≤ most → Small t
  this-small h l b =
      let k = this-counted h in
      let s = this-sums in
      record {
        pluses = omega arith;
        minuses = omega arith;
        groups = omega (arith, k.groups);
        accounts = omega (arith, k.accounts);
        details = omega (arith, k.details);
        records = omega arith;
      }

-- ---- two summaries together

-- the numbers of both
pub record Both (a b r : Summary) : Type 0 where
  pub pluses : r.total.0 ≡ a.total.0 + b.total.0
  pub minuses : r.total.1 ≡ a.total.1 + b.total.1
  pub groups : r.groups.0 ≡ a.groups.0 + b.groups.0
  pub accounts : r.accounts.0 ≡ a.accounts.0 + b.accounts.0
  pub details : r.details.0 ≡ a.details.0 + b.details.0
  pub records : r.records.0 ≡ a.records.0 + b.records.0

both : (a b r : Summary) → summary_meant r ≡ summary_meant a ⊞ summary_meant b → Both a b r
unfolding ◌⊞◌
both a b r e =
    record {
      pluses = ap (λ (m : totals.Summary). m.sum.pluses) e;
      minuses = ap (λ (m : totals.Summary). m.sum.minuses) e;
      groups = ap (λ (m : totals.Summary). m.groups) e;
      accounts = ap (λ (m : totals.Summary). m.accounts) e;
      details = ap (λ (m : totals.Summary). m.details) e;
      records = ap (λ (m : totals.Summary). m.records) e;
    }

both_below : (a f t r q : Summary) → Below a f → Both a t r → Both f t q → Below r q
both_below a f t r q l x y =
    record {
      pluses = omega (arith, l.pluses, x.pluses, y.pluses);
      minuses = omega (arith, l.minuses, x.minuses, y.minuses);
      groups = omega (arith, l.groups, x.groups, y.groups);
      accounts = omega (arith, l.accounts, x.accounts, y.accounts);
      details = omega (arith, l.details, x.details, y.details);
      records = omega (arith, l.records, x.records, y.records);
    }

-- of a group or account that is open, or of none
open-below : (is_open : Bool) (a r f : Summary) → summary_meant r ≡ cond is_open (summary_meant a) no_summary → Below a f → Below r f
open-below true a r f e l =
    record {
      pluses = rw (ap (λ (m : totals.Summary). m.sum.pluses) e) l.pluses;
      minuses = rw (ap (λ (m : totals.Summary). m.sum.minuses) e) l.minuses;
      groups = rw (ap (λ (m : totals.Summary). m.groups) e) l.groups;
      accounts = rw (ap (λ (m : totals.Summary). m.accounts) e) l.accounts;
      details = rw (ap (λ (m : totals.Summary). m.details) e) l.details;
      records = rw (ap (λ (m : totals.Summary). m.records) e) l.records;
    }
open-below false a r f e l =
    record {
      pluses = omega (arith, ap (λ (m : totals.Summary). m.sum.pluses) e);
      minuses = omega (arith, ap (λ (m : totals.Summary). m.sum.minuses) e);
      groups = omega (arith, ap (λ (m : totals.Summary). m.groups) e);
      accounts = omega (arith, ap (λ (m : totals.Summary). m.accounts) e);
      details = omega (arith, ap (λ (m : totals.Summary). m.details) e);
      records = omega (arith, ap (λ (m : totals.Summary). m.records) e);
    }

-- ---- the next state

-- after a record that adds `this`: of n lines, with the sum a
module _ (this : Summary) (c : Code) (a : Sum) (n : ℕ) (e : summary_meant this ≡ adding c a n) where
  pub records-next : (old file : Summary) → summary_meant file ≡ summary_meant old ⊞ summary_meant this → file.records.0 ≡ old.records.0 + n
  records-next old file f = let b = both old this file f in let k = this-sums c a n this e in omega (arith, b.records)

  -- group, account: theirs with the record
  pub held_next : (s t : State) (group account : Summary) → Held s → 0 < n → s.file.total.0 + s.file.total.1 + magnitudes a ≤ most
      → summary_meant t.file ≡ summary_meant s.file ⊞ summary_meant this
      → summary_meant group ≡ summary_meant s.group ⊞ summary_meant this → summary_meant account ≡ summary_meant s.account ⊞ summary_meant this
      → (x y : Bool) → summary_meant t.group ≡ cond x (summary_meant group) no_summary → summary_meant t.account ≡ cond y (summary_meant account) no_summary → Held t
  held_next s t group account h l m f p q x y u v =
      let b = both s.file this t.file f in
      let k = this-sums c a n this e in
      let d = this-counted c a n this e l in
      record {
        bound = omega (arith, b.pluses, b.minuses);
        counted =
            record {
              groups = omega (arith, b.groups, b.records, h.counted.groups, d.groups);
              accounts = omega (arith, b.accounts, b.records, h.counted.accounts, d.accounts);
              details = omega (arith, b.details, b.records, h.counted.details, d.details);
            };
        group = open-below x group t.group t.file u (both_below s.group s.file this group t.file h.group (both s.group this group p) b);
        account = open-below y account t.account t.file v (both_below s.account s.file this account t.file h.account (both s.account this account q) b);
      }
