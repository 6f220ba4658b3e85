-- The checks of a record's lines, line by line, at the places that the code reaches. Assumes nothing.
use Prim.Native.Nat.{ℕ, suc, ◌+◌, ◌≤◌, ◌<◌}
use mathlib.Core.Path.{◌≡◌, refl, ap, sym, ◌∙◌}
use mathlib.Core.List.{[], ◌∷◌}
use mathlib.Core.Bool.{true, false}
use mathlib.Core.Option.{none, some}
use native.Mathlib.Omega.{arith}
use native.Mathlib.Nat.{zero-add, add-zero}
use borrow.Author.Tests.{le-leb, lt-leb}
use lib.ListN.{length, take, drop, drop_of_length-le}
use Rattle.rules.specs.Bytes.{Bytes, same_bytes, allowed, all}
use Rattle.rules.specs.Outcome.{Refusal, Outcome, refused, refuse, fine, ◌>>=◌}
use Rattle.rules.specs.Lines.{Line, Code, Record, size_of, lines_of, file_header, group_header, account_header, detail, account_trailer, group_trailer, file_trailer, continuation, code_bytes, code_in, code_of, record_size}
use Rattle.rules.specs.Verdict.{not_longer, all_allowed, coded, good_line, good_lines, none_longer}
use Rattle.rules.proofs.Binds.{then-fine, or-fine}
use Rattle.rules.proofs.Tests.{Known, holds, fails, known, same-eq}
use Rattle.read_lines.specs.LineLengths.{run, body_len, line_len, plain_len, first_line, further, first_record, is_end}
use Rattle.read_lines.proofs.LineLengthLaws.{first_of, first_body}
use Rattle.read_lines.proofs.OneRecord.{first-size}
use Rattle.read_lines.proofs.RunLengths.{plain_byte}
use Rattle.read_lines.proofs.Fronts.{not-below, begins-front}
use Rattle.read_lines.proofs.LineLaws.{lines-here, further-none, further-first, further-size}

-- ---- 4: where the allowed bytes end

allowed-line : (b : ℕ) (bs : Bytes) → allowed b ≡ true → is_end b bs ≡ false
allowed-line b bs e = plain_byte b bs (not-below b (rw e tt))

allowed-body-step : (p b : ℕ) (bs : Bytes) → (body_len bs ≤ plain_len bs → all_allowed (suc p) (take (body_len bs) bs) ≡ fine tt)
    → body_len (b ∷ bs) ≤ plain_len (b ∷ bs) → Known (allowed b) → Known (is_end b bs) → all_allowed p (take (body_len (b ∷ bs)) (b ∷ bs)) ≡ fine tt
unfolding run all_allowed
allowed-body-step p b bs ih h (holds e) n = let k = simp (e, allowed-line b bs e) at h in simp (e, allowed-line b bs e) (ih (omega arith))
allowed-body-step p b bs ih h (fails e) (holds f) = simp f
allowed-body-step p b bs ih h (fails e) (fails f) = let k = simp (e, f) at h in absurd (omega arith)

allowed-body : (p : ℕ) (xs : Bytes) → body_len xs ≤ plain_len xs → all_allowed p (take (body_len xs) xs) ≡ fine tt
unfolding run all_allowed
allowed-body p [] h = refl
allowed-body p (b ∷ bs) h = allowed-body-step p b bs (allowed-body (suc p) bs) h (known (allowed b)) (known (is_end b bs))

allowed-not-step : (p b : ℕ) (bs : Bytes) → (plain_len bs < body_len bs → all_allowed (suc p) (take (body_len bs) bs) ≡ refuse 4 (suc p + plain_len bs))
    → plain_len (b ∷ bs) < body_len (b ∷ bs) → Known (allowed b) → Known (is_end b bs) → all_allowed p (take (body_len (b ∷ bs)) (b ∷ bs)) ≡ refuse 4 (p + plain_len (b ∷ bs))
unfolding run all_allowed
allowed-not-step p b bs ih h (holds e) n =
    let k = simp (e, allowed-line b bs e) at h in
    let q : suc p + plain_len bs ≡ p + suc (plain_len bs) = omega arith in
    simp (e, allowed-line b bs e) (ih (omega arith) ∙ ap (λ (n : ℕ). refuse 4 n) q)
allowed-not-step p b bs ih h (fails e) (holds f) = let k = simp (e, f) at h in absurd (omega arith)
allowed-not-step p b bs ih h (fails e) (fails f) = simp (e, f) (ap (λ (n : ℕ). refuse 4 n) (sym (add-zero p)))

allowed-not : (p : ℕ) (xs : Bytes) → plain_len xs < body_len xs → all_allowed p (take (body_len xs) xs) ≡ refuse 4 (p + plain_len xs)
unfolding run all_allowed
allowed-not p [] h = absurd (omega arith)
allowed-not p (b ∷ bs) h = allowed-not-step p b bs (allowed-not (suc p) bs) h (known (allowed b)) (known (is_end b bs))

-- ---- one line, of bytes that begin at p

module _ (xs : Bytes) (p limit : ℕ) where
  pub line-long : limit < body_len xs → good_line p limit (first_line xs) ≡ refuse 3 (p + limit)
  unfolding good_line not_longer
  line-long h = rw (first_body xs, lt-leb (body_len xs) limit h)

  module _ (h : body_len xs ≤ limit) where
    pub line-byte : plain_len xs < body_len xs → good_line p limit (first_line xs) ≡ refuse 4 (p + plain_len xs)
    unfolding good_line not_longer
    line-byte k = rw (first_body xs, le-leb (body_len xs) limit h, allowed-not p xs k)

    pub line_clean : body_len xs ≤ plain_len xs → good_line p limit (first_line xs) ≡ coded p (first_line xs)
    unfolding good_line not_longer
    line_clean k = rw (first_body xs, le-leb (body_len xs) limit h, allowed-body p xs k)

-- 5 alone is left
module _ (p limit : ℕ) (l : Line) (h : good_line p limit l ≡ coded p l) where
  pub line_code : none ≡ code_of l → good_line p limit l ≡ refuse 5 p
  unfolding coded
  line_code e = h ∙ rw (sym e)

  pub line-fine : (c : Code) → some c ≡ code_of l → good_line p limit l ≡ fine c
  unfolding coded
  line-fine c e = h ∙ rw (sym e)

-- a good line's code
pub good-code : (p limit : ℕ) (l : Line) (c : Code) → good_line p limit l ≡ fine c → code_of l ≡ some c
unfolding good_line coded
good-code p limit l c h = or-fine (code_of l) 5 p c (then-fine (all_allowed p l.body) _ c (then-fine (not_longer p limit l) _ c h))

-- a line of 88 has that code
pub code-88 : (xs : Bytes) → same_bytes (code_bytes continuation) (take 3 xs) ≡ true → code_of (first_line xs) ≡ some continuation
unfolding code_of code_in same_bytes
code-88 xs t =
    let e : code_bytes continuation ≡ take 3 xs = same-eq (code_bytes continuation) (take 3 xs) (rw t tt) in
    rw (
      begins-front file_header xs,
      begins-front group_header xs,
      begins-front account_header xs,
      begins-front detail xs,
      begins-front account_trailer xs,
      begins-front group_trailer xs,
      begins-front file_trailer xs,
      begins-front continuation xs,
      ← e,
    )

-- ---- lines one after the other

bind-stop : {A B : Type 0} (o : Outcome A) (rest : Outcome B) (why : Refusal) → o ≡ refused why → (o >>= λ _. rest) ≡ refused why
bind-stop o rest why e = rw e

bind-go : {A B : Type 0} (o : Outcome A) (rest : Outcome B) (a : A) → o ≡ fine a → (o >>= λ _. rest) ≡ rest
bind-go o rest a e = rw e

-- what the checks, the count and the size say of some lines, when p bytes and n lines stand before them
pub record Same (limit : ℕ) (all : Record) (p n : ℕ) (ls : Record) : Type 0 where
  pub checks : good_lines 0 limit all ≡ good_lines p limit ls
  pub count : length all ≡ n + length ls
  pub size : record_size all ≡ p + record_size ls

-- ---- the record in front of s: its first line

module _ (limit : ℕ) (s : Bytes) (h : 0 < length s) where
  pub first-stop : (why : Refusal) → good_line 0 limit (first_line s) ≡ refused why → good_lines 0 limit (first_record (lines_of s)) ≡ refused why
  unfolding first_record good_lines
  first-stop why e = rw (first_of s h) (bind-stop (good_line 0 limit (first_line s)) _ why e)

  pub first-go : (c : Code) (n : ℕ) → good_line 0 limit (first_line s) ≡ fine c → n ≡ line_len s
      → Same limit (first_record (lines_of s)) n 1 (further (lines_of (drop n s)))
  unfolding first_record good_lines record_size
  first-go c n e q =
      record {
        checks = rw (first_of s h) (bind-go (good_line 0 limit (first_line s)) _ c e ∙ rw (first-size s, ← q, zero-add));
        count = rw (first_of s h) (rw (← q) (omega arith));
        size = rw (first_of s h) (rw (first-size s, ← q));
      }

-- ---- its 88 lines, by the test of the three bytes at `at`

module _ (s : Bytes) (at : ℕ) where
  pub further-end : (limit : ℕ) (all : Record) (m : ℕ) → same_bytes (code_bytes continuation) (take 3 (drop at s)) ≡ false
      → Same limit all at m (further (lines_of (drop at s))) → Same limit all at m []
  further-end limit all m t same = let e = further-none s at t in record { checks = rw e at same.checks; count = rw e at same.count; size = rw e at same.size }

  module _ (t : same_bytes (code_bytes continuation) (take 3 (drop at s)) ≡ true) where
    module _ (limit : ℕ) (all : Record) (m : ℕ) (same : Same limit all at m (further (lines_of (drop at s)))) where
      pub further-stop : (why : Refusal) → good_line at limit (first_line (drop at s)) ≡ refused why → good_lines 0 limit all ≡ refused why
      unfolding good_lines
      further-stop why e = same.checks ∙ rw (further-first s at t (at + line_len (drop at s)) refl) (bind-stop (good_line at limit (first_line (drop at s))) _ why e)

      pub further-go : (c : Code) (n : ℕ) → good_line at limit (first_line (drop at s)) ≡ fine c → n ≡ at + line_len (drop at s)
          → Same limit all n (m + 1) (further (lines_of (drop n s)))
      unfolding good_lines record_size
      further-go c n e p =
          let z = first-size (drop at s) in
          let y : at + size_of (first_line (drop at s)) ≡ n = omega arith in
          record {
            checks = same.checks ∙ rw (further-first s at t n p) (bind-go (good_line at limit (first_line (drop at s))) _ c e ∙ rw y);
            count = same.count ∙ rw (further-first s at t n p) (omega arith);
            size = same.size ∙ further-size s at t n p;
          }

-- ---- 3 alone

module _ (s : Bytes) (at limit : ℕ) where
  pub short-end : length s ≤ at → none_longer at limit (lines_of (drop at s)) ≡ fine tt
  unfolding none_longer lines_of
  short-end h = rw (drop_of_length-le s {i = at} h)

  module _ (h : at < length s) where
    pub short-stop : limit < body_len (drop at s) → none_longer at limit (lines_of (drop at s)) ≡ refuse 3 (at + limit)
    unfolding none_longer not_longer
    short-stop k = rw (lines-here s at (at + line_len (drop at s)) h refl, first_body (drop at s), lt-leb (body_len (drop at s)) limit k)

    pub short-go : (n : ℕ) → body_len (drop at s) ≤ limit → n ≡ at + line_len (drop at s) → none_longer at limit (lines_of (drop at s)) ≡ none_longer n limit (lines_of (drop n s))
    unfolding none_longer not_longer
    short-go n k p = rw (lines-here s at n h p, first_body (drop at s), le-leb (body_len (drop at s)) limit k, ← p)
