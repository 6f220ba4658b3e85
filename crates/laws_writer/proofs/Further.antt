-- An 88 after the last record: a further item goes on with its account's record. Assumes nothing.
use mathlib.Core.Path.{◌≡◌, refl, sym, ap, ◌∙◌}
use mathlib.Core.Bool.{true}
use mathlib.Core.List.{List, [], ◌∷◌, ◌++◌}
use mathlib.Core.Option.{Option}
use Prim.Native.Nat.{ℕ, ◌+◌, ◌≤◌}
use native.Mathlib.Omega.{arith}
use native.Mathlib.Nat.{add_assoc, add-zero}
use lib.ListN.{length-append}
use Rattle.rules.specs.Bytes.{Bytes, same_bytes}
use Rattle.rules.specs.Outcome.{Outcome, refused, fine, ◌>>=◌}
use Rattle.rules.specs.Numbers.{Signed, ◌⊕◌, magnitudes}
use Rattle.rules.specs.Limits.{most, longest_line}
use Rattle.rules.specs.Lines.{Line, lines_of, Code, account_header, continuation, begins, Record, record_size, size_of, file_records}
use Rattle.rules.specs.Cells.{cells_of}
use Rattle.rules.specs.Grammar.{Kind, fields_of, further_type}
use Rattle.rules.specs.Records.{Field, Walk, walk_cells, walk_lines}
use Rattle.rules.specs.Totals.{Summary, ◌⊞◌, sum_of, adding, of_record, balanced}
use Rattle.rules.specs.Verdict.{State, in_order, limit_after, state_after}
use Rattle.rules.specs.Writer.{expected_in, Writer, Given, sum_given, of_given, body_of, line_of, entry_of}
use Rattle.rules.proofs.Binds.{refused-fine, fine-same}
use Rattle.laws_writer.specs.SessionWords.{Value, Told, of_code, all_said, records_said, to_last, gathered}
use Rattle.laws_writer.proofs.LinesWritten.{lines_more, cut-more, to-last-record, good_more}
use Rattle.laws_writer.proofs.WalkWritten.{walk_at}
use Rattle.laws_writer.proofs.Found.{Found, slash_line, sum-append, said-append}
use Rattle.laws_writer.proofs.RecordsWritten.{state_of, reading, Taken, Run, extended, After, line_at, body-clear, good-body, cells-body, size-more}

-- ---- the walk goes on

unit-bind : (o : Outcome Walk) → (o >>= λ n. fine n) ≡ o
unit-bind (refused why) = refl
unit-bind (fine a) = refl

walk_step : (o : Outcome Walk) (q : ℕ) (rec : Record) (m : Line) (w : Walk) (e : ℕ)
    → ((n : Walk) → walk_lines q n rec ≡ fine w → walk_lines q n (rec ++ (m ∷ [])) ≡ walk_cells w (cells_of e m))
    → (o >>= λ n. walk_lines q n rec) ≡ fine w → (o >>= λ n. walk_lines q n (rec ++ (m ∷ []))) ≡ walk_cells w (cells_of e m)
walk_step (refused why) q rec m w e ih h = absurd (refused-fine why w h)
walk_step (fine n) q rec m w e ih h = ih n h

walk_more : (p : ℕ) (u w : Walk) (rec : Record) (m : Line) → walk_lines p u rec ≡ fine w → walk_lines p u (rec ++ (m ∷ [])) ≡ walk_cells w (cells_of (p + record_size rec) m)
unfolding walk_lines record_size
walk_more p u w [] m h = rw (fine-same u w h, add-zero p) (unit-bind (walk_cells w (cells_of p m)))
walk_more p u w (n ∷ rec) m h =
    walk_step (walk_cells u (cells_of p n)) (p + size_of n) rec m w (p + (size_of n + record_size rec))
    (λ x k. walk_more (p + size_of n) x w rec m k ∙ rw add_assoc) h

order-more : (cs : List Code) (rec : Record) (m : Line) (c : Code) → in_order cs rec ≡ fine c → in_order cs (rec ++ (m ∷ [])) ≡ fine c
unfolding in_order
order-more cs [] m c h = absurd (refused-fine _ c h)
order-more cs (n ∷ rec) m c h = h

-- ---- the sums go on

plus_assoc : (a b c : Summary) → a ⊞ (b ⊞ c) ≡ (a ⊞ b) ⊞ c
unfolding ◌⊞◌
plus_assoc a b c = simp add_assoc

told-last : (ts : List Told) (c : Code) (us vs : List Value) → to_last (ts ++ (of_code c us ∷ [])) vs ≡ ts ++ (of_code c (us ++ vs) ∷ [])
unfolding to_last
told-last [] c us vs = refl
told-last (t ∷ []) c us vs = refl
told-last (t ∷ s ∷ ts) c us vs = rw (told-last (s ∷ ts) c us vs)

abbrev item_line : List Bytes → Option Signed → Given
item_line fs a = slash_line continuation (further_type ∷ []) fs a

module _ (v w : Writer) (rec : Record) (fs : List Field) (bs : List Bytes) (a : Option Signed) (vs : List Value) (left : List Kind) (l : Found (item_line bs a) vs left) (p : ℕ)
    (state : state_after (state_of v) rec (reading account_header fs) ≡ state_of w) where
  more-this : of_record account_header (rec ++ (line_at (item_line bs a) ∷ [])) (fs ++ l.fields p) ≡ of_record account_header rec fs ⊞ of_given (item_line bs a)
  unfolding of_record adding of_given ◌⊞◌ same_bytes
  more-this = rw (sum-append fs (l.fields p), l.sum p, length-append rec (line_at (item_line bs a) ∷ []))

  file-is : v.file ⊞ of_record account_header rec fs ≡ w.file
  unfolding state_after
  file-is = ap (λ (s : State). s.file) state

  group-is : v.group ⊞ of_record account_header rec fs ≡ w.group
  unfolding state_after
  group-is = ap (λ (s : State). s.group) state

  account-is : v.account ⊞ of_record account_header rec fs ≡ w.account
  unfolding state_after
  account-is = ap (λ (s : State). s.account) state

  more-state : state_after (state_of v) (rec ++ (line_at (item_line bs a) ∷ [])) (reading account_header (fs ++ l.fields p)) ≡ state_of (entry_of w (item_line bs a) left).next
  unfolding state_after entry_of limit_after same_bytes
  more-state = rw (more-this, plus_assoc, plus_assoc, plus_assoc, file-is, group-is, account-is)

  file-sum : magnitudes v.file.sum + magnitudes (sum_of fs) ≡ magnitudes w.file.sum
  unfolding ◌⊞◌ of_record adding
  file-sum = let e = ap (λ (s : Summary). magnitudes s.sum) file-is in omega (arith, e)

  more-bound : magnitudes (w.file.sum ⊕ sum_given a) ≤ most → magnitudes v.file.sum + magnitudes (sum_of (fs ++ l.fields p)) ≤ most
  more-bound h = rw (sum-append fs (l.fields p), l.sum p) (omega (arith, file-sum))

-- ---- the record goes on

-- with its parts as variables, and its code known
more-taken : (v w : Writer) (rec : Record) (fs : List Field) (bs : List Bytes) (a : Option Signed) (vs : List Value) (left : List Kind) (l : Found (item_line bs a) vs left)
    → (t : Taken v rec account_header fs (further_type ∷ [])) → state_after (state_of v) rec (reading account_header fs) ≡ state_of w
    → magnitudes (w.file.sum ⊕ sum_given a) ≤ most
    → Taken v (rec ++ (line_at (item_line bs a) ∷ [])) account_header (fs ++ l.fields (0 + record_size rec + 3)) l.wanted
unfolding balanced limit_after same_bytes
more-taken v w rec fs bs a vs left l t state bound =
    record {
      lines = good_more 0 longest_line rec (line_at (item_line bs a)) (good-body (item_line bs a) l) t.lines;
      order = order-more (expected_in v.phase) rec (line_at (item_line bs a)) account_header t.order;
      slash = l.slash (0 + record_size rec + 3) t.slash;
      walked =
          walk_more 0 (walk_at (fields_of account_header) [] 0) (walk_at (further_type ∷ []) fs t.slash) rec (line_at (item_line bs a)) t.walked
          ∙ rw (cells-body (item_line bs a) l (0 + record_size rec)) (l.walked (0 + record_size rec + 3) fs t.slash);
      may = l.may;
      limit = refl;
      bound = more-bound v w rec fs bs a vs left l (0 + record_size rec + 3) state bound;
      balances = refl;
    }

module _ (r : Run) (b : After r) (bs : List Bytes) (a : Option Signed) (vs : List Value) (left : List Kind) (l : Found (item_line bs a) vs left)
    (items : r.writer.items ≡ true) (bound : magnitudes (r.writer.file.sum ⊕ sum_given a) ≤ most) where
  is-item : (b.wanted ≡ further_type ∷ []) × (b.code ≡ account_header)
  is-item = b.item (sym b.items ∙ items)

  abbrev place : ℕ
  place = 0 + record_size b.last + 3

  last_taken : Taken b.v b.last account_header b.fields (further_type ∷ [])
  last_taken = rw (is-item.0, is-item.1) at b.taken

  last-state : state_after (state_of b.v) b.last (reading account_header b.fields) ≡ state_of r.writer
  last-state = rw is-item.1 at b.state

  begins-88 : begins continuation (line_at (item_line bs a)) ≡ true
  unfolding begins body_of same_bytes
  begins-88 = refl

  records-more : file_records (r.bytes ++ line_of (item_line bs a)) ≡ b.before ++ ((b.last ++ (line_at (item_line bs a) ∷ [])) ∷ [])
  unfolding line_of file_records
  records-more =
      rw (lines_more r.bytes (body_of (item_line bs a)) b.cut (body-clear (item_line bs a) l))
      (to-last-record (lines_of r.bytes) b.before b.last (line_at (item_line bs a)) begins-88 b.whole)

  pub one_more : After (extended r (item_line bs a) left vs)
  unfolding entry_of line_of gathered same_bytes
  one_more =
      record {
        before = b.before;
        v = b.v;
        last = b.last ++ (line_at (item_line bs a) ∷ []);
        code = account_header;
        fields = b.fields ++ l.fields place;
        wanted = l.wanted;
        whole = records-more;
        first = b.first;
        taken = more-taken b.v r.writer b.last b.fields bs a vs left l last_taken last-state bound;
        state = more-state b.v r.writer b.last b.fields bs a vs left l place last-state;
        items = l.items;
        item = λ e. ((l.item e).0, refl);
        cut = cut-more r.bytes (body_of (item_line bs a)) b.cut (body-clear (item_line bs a) l);
        size = size-more r.writer r.bytes (item_line bs a) left b.size;
        told =
            ap (λ (ts : List Told). to_last ts vs) b.told
            ∙ told-last (records_said b.before) b.code (all_said b.fields) vs
            ∙ rw (is-item.1, said-append b.fields (l.fields place), l.back place);
      }
