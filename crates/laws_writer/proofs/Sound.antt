-- Sound states: what their numbers are, and that an accepted call hands back a sound one. Assumes nothing.
use mathlib.Core.Path.{◌≡◌}
use mathlib.Core.Bool.{Bool, true, false, cond}
use mathlib.Core.List.{List}
use Prim.Native.Nat.{ℕ, ◌+◌, ◌≤◌}
use native.Mathlib.Omega.{arith}
use lib.Dec.{leb}
use lib.ListN.{length, length-append}
use borrow.Author.Tests.{le-leb, leb-true}
use Rattle.rules.specs.Numbers.{◌⊕◌, magnitudes}
use Rattle.rules.specs.Limits.{most, longest_file}
use Rattle.rules.specs.Lines.{Code, group_header, account_header, detail, same_code}
use Rattle.rules.specs.Grammar.{Kind}
use Rattle.rules.specs.Totals.{Summary, no_summary, ◌⊞◌, one, adding}
use Rattle.rules.specs.Order.{group_open, account_open}
use Rattle.rules.specs.Writer.{Writer, Given, counted, sound, sum_given, of_given, line_of, entry_of}
use Rattle.base_digits.proofs.DigitTests.{and_left, and_right}

-- ---- what a sound state says, and back

pub record Counted (n : ℕ) (s : Summary) : Type 0 where
  pub groups : s.groups ≤ n
  pub accounts : s.accounts ≤ n
  pub details : s.details ≤ n
  pub records : s.records ≤ n

pub record Sound (w : Writer) : Type 0 where
  pub size : w.size ≤ longest_file
  pub file : magnitudes w.file.sum ≤ most
  pub group : magnitudes w.group.sum ≤ magnitudes w.file.sum
  pub account : magnitudes w.account.sum ≤ magnitudes w.file.sum
  pub in-file : Counted w.size w.file
  pub in_group : Counted w.size w.group
  pub in-account : Counted w.size w.account

counts : (n : ℕ) (s : Summary) → counted n s ≡ true → Counted n s
counts n s h =
    let h1 = and_right (leb s.groups n) _ h in
    let h2 = and_right (leb s.accounts n) _ h1 in
    record {
      groups = leb-true s.groups n (and_left (leb s.groups n) _ h);
      accounts = leb-true s.accounts n (and_left (leb s.accounts n) _ h1);
      details = leb-true s.details n (and_left (leb s.details n) _ h2);
      records = leb-true s.records n (and_right (leb s.details n) _ h2);
    }

pub sound-says : (w : Writer) → sound w ≡ true → Sound w
unfolding sound
sound-says w h =
    let file = magnitudes w.file.sum in
    let h1 = and_right (leb w.size longest_file) _ h in
    let h2 = and_right (leb file most) _ h1 in
    let h3 = and_right (leb (magnitudes w.group.sum) file) _ h2 in
    let h4 = and_right (leb (magnitudes w.account.sum) file) _ h3 in
    let h5 = and_right (counted w.size w.file) _ h4 in
    record {
      size = leb-true w.size longest_file (and_left (leb w.size longest_file) _ h);
      file = leb-true file most (and_left (leb file most) _ h1);
      group = leb-true (magnitudes w.group.sum) file (and_left (leb (magnitudes w.group.sum) file) _ h2);
      account = leb-true (magnitudes w.account.sum) file (and_left (leb (magnitudes w.account.sum) file) _ h3);
      in-file = counts w.size w.file (and_left (counted w.size w.file) _ h4);
      in_group = counts w.size w.group (and_left (counted w.size w.group) _ h5);
      in-account = counts w.size w.account (and_right (counted w.size w.group) (counted w.size w.account) h5);
    }

is-counted : (n : ℕ) (s : Summary) → Counted n s → counted n s ≡ true
is-counted n s c = rw (le-leb s.groups n c.groups, le-leb s.accounts n c.accounts, le-leb s.details n c.details, le-leb s.records n c.records)

pub is-sound : (w : Writer) → Sound w → sound w ≡ true
unfolding sound
is-sound w s =
    rw (
      le-leb w.size longest_file s.size,
      le-leb (magnitudes w.file.sum) most s.file,
      le-leb (magnitudes w.group.sum) (magnitudes w.file.sum) s.group,
      le-leb (magnitudes w.account.sum) (magnitudes w.file.sum) s.account,
      is-counted w.size w.file s.in-file,
      is-counted w.size w.group s.in_group,
      is-counted w.size w.account s.in-account,
    )

-- ---- one line more

pub one-few : (c d : Code) → one c d ≤ 1
one-few c d = by-test (same_code c d)
  where
    by-test : (t : Bool) → cond t 1 0 ≤ 1
    by-test true = omega arith
    by-test false = omega arith

pub line-some : (g : Given) → 1 ≤ length (line_of g)
unfolding line_of
line-some g = rw length-append (omega arith)

-- a line adds at most one to each count
this-counted : (g : Given) → Counted (length (line_of g)) (of_given g)
unfolding of_given adding
this-counted g =
    let some_byte = line-some g in
    record {
      groups = omega (arith, one-few g.code group_header);
      accounts = omega (arith, one-few g.code account_header);
      details = omega (arith, one-few g.code detail);
      records = some_byte;
    }

more-counted : {m n : ℕ} {a b : Summary} → Counted m a → Counted n b → Counted (m + n) (a ⊞ b)
unfolding ◌⊞◌
more-counted x y =
    record {
      groups = omega (arith, x.groups, y.groups);
      accounts = omega (arith, x.accounts, y.accounts);
      details = omega (arith, x.details, y.details);
      records = omega (arith, x.records, y.records);
    }

-- so it is of what is open, where something is
open-counted : (t : Bool) {m n : ℕ} {a b : Summary} → Counted m a → Counted n b → Counted (m + n) (cond t (a ⊞ b) no_summary)
open-counted true x y = more-counted x y
open-counted false x y = record { groups = omega arith; accounts = omega arith; details = omega arith; records = omega arith }

open-sum : (t : Bool) (f a b : Summary) → magnitudes a.sum ≤ magnitudes f.sum → magnitudes (cond t (a ⊞ b) no_summary).sum ≤ magnitudes (f ⊞ b).sum
unfolding ◌⊞◌
open-sum true f a b h = omega arith
open-sum false f a b h = omega arith

sum-within : (w : Writer) (g : Given) → magnitudes (w.file.sum ⊕ sum_given g.amount) ≤ most → magnitudes (w.file ⊞ of_given g).sum ≤ most
unfolding ◌⊞◌ of_given adding
sum-within w g m = m

pub next-sound : (w : Writer) (g : Given) (left : List Kind) → Sound w → magnitudes (w.file.sum ⊕ sum_given g.amount) ≤ most → w.size + length (line_of g) ≤ longest_file
    → Sound (entry_of w g left).next
unfolding entry_of
next-sound w g left s m n =
    record {
      size = n;
      file = sum-within w g m;
      group = open-sum (group_open g.code) w.file w.group (of_given g) s.group;
      account = open-sum (account_open g.code) w.file w.account (of_given g) s.account;
      in-file = more-counted s.in-file (this-counted g);
      in_group = open-counted (group_open g.code) s.in_group (this-counted g);
      in-account = open-counted (account_open g.code) s.in-account (this-counted g);
    }
