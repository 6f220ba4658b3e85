-- What an accepted call says: each check held; and no refusal has the number 0. Assumes nothing.
use mathlib.Core.Path.{◌≡◌}
use mathlib.Core.Bool.{Bool, true, false, ◌&&◌}
use mathlib.Core.List.{List, [], ◌∷◌}
use Prim.Native.Nat.{ℕ, ◌+◌, ◌≤◌}
use native.Mathlib.Omega.{arith}
use lib.Dec.{leb, leb→le}
use lib.ListN.{length}
use borrow.Author.Tests.{leb-true}
use Rattle.rules.specs.Bytes.{Bytes, clean}
use Rattle.rules.specs.Outcome.{Outcome, refused, fine, ◌>>=◌, ◌>>◌, check}
use Rattle.rules.specs.Numbers.{◌⊕◌, magnitudes}
use Rattle.rules.specs.Limits.{most, longest_file}
use Rattle.rules.specs.Grammar.{Kind, Judged, bad, good, take_next}
use Rattle.rules.specs.Writer.{Writer, Given, Entry, sound, in_turn, or_twenty, kinds_after, good_text_or_none, sum_given, line_of, entry_of, line_fits, write_line}
use Rattle.rules.proofs.Tests.{is_true}
use Rattle.rules.proofs.Binds.{from-bind, then-fine, first_fine, check-holds, fine-same}
use Rattle.base_digits.proofs.DigitTests.{and_left, and_right}

-- ---- each check held

pub record Passed (w : Writer) (g : Given) (room : ℕ) (e : Entry) : Type 0 where
  pub sound : sound w ≡ true
  pub turn : in_turn g.code w.phase w.items ≡ true
  pub left : List Kind
  pub fields : kinds_after g.kinds g.fields ≡ fine left
  pub text : good_text_or_none g.text ≡ true
  pub bound : magnitudes (w.file.sum ⊕ sum_given g.amount) ≤ most
  pub size : w.size + length (line_of g) ≤ longest_file
  pub room-left : w.size + length (line_of g) ≤ room
  pub entry : entry_of w g left ≡ e

-- a check that stands before others held
held : {A : Type 0} (t : Bool) (n p : ℕ) (r : Outcome A) (a : A) → (check t n p >> r) ≡ fine a → (t ≡ true) × (r ≡ fine a)
held t n p r a h = (is_true t (check-holds t n p (first_fine (check t n p) r a h)), then-fine (check t n p) r a h)

room_says : (w : Writer) (g : Given) (room : ℕ) → line_fits w g room ≡ fine tt
    → (magnitudes (w.file.sum ⊕ sum_given g.amount) ≤ most) × (w.size + length (line_of g) ≤ longest_file) × (w.size + length (line_of g) ≤ room)
unfolding line_fits
room_says w g room h =
    let a = held (leb (magnitudes (w.file.sum ⊕ sum_given g.amount)) most) 10 0 _ tt h in
    let b = held (leb (w.size + length (line_of g)) longest_file) 18 0 _ tt a.1 in
    (leb-true _ most a.0, leb-true _ longest_file b.0, leb→le _ room (check-holds (leb (w.size + length (line_of g)) room) 15 0 b.1))

pub passed : (w : Writer) (g : Given) (room : ℕ) (e : Entry) → write_line w g room ≡ fine e → Passed w g room e
unfolding write_line
passed w g room e h =
    let a = held (sound w && in_turn g.code w.phase w.items) 19 0 _ e h in
    from-bind (kinds_after g.kinds g.fields) _ e a.1 (λ left f rest.
    let b = held (good_text_or_none g.text) 20 0 _ e rest in
    let d = room_says w g room (first_fine (line_fits w g room) _ e b.1) in
    record {
      sound = and_left (sound w) _ a.0;
      turn = and_right (sound w) _ a.0;
      left = left;
      fields = f;
      text = b.0;
      bound = d.0;
      size = d.1;
      room-left = d.2;
      entry = fine-same (entry_of w g left) e (then-fine (line_fits w g room) _ e b.1);
    })

-- ---- no refusal has the number 0

abbrev pub Numbered : {A : Type 0} → Outcome A → Type 0
Numbered (refused why) = 1 ≤ why.number
Numbered (fine a) = Unit {0}

then-numbered : {B : Type 0} (t : Bool) (n p : ℕ) (r : Outcome B) → 1 ≤ n → Numbered r → Numbered (check t n p >> r)
then-numbered true n p r h k = k
then-numbered false n p r h k = h

bind-numbered : {A B : Type 0} (o : Outcome A) (f : A → Outcome B) → Numbered o → ((a : A) → Numbered (f a)) → Numbered (o >>= f)
bind-numbered (refused why) f h k = h
bind-numbered (fine a) f h k = k a

twenty-numbered : (j : Judged) → Numbered (or_twenty j)
twenty-numbered (bad n) = omega arith
twenty-numbered (good next) = tt

fields-numbered : (ks : List Kind) (fs : List Bytes) → Numbered (kinds_after ks fs)
unfolding kinds_after
fields-numbered ks [] = tt
fields-numbered ks (f ∷ fs) =
    then-numbered (clean f) 20 0 _ (omega arith)
    (bind-numbered (or_twenty (take_next ks f)) _ (twenty-numbered (take_next ks f)) (λ next. fields-numbered next fs))

pub line-numbered : (w : Writer) (g : Given) (room : ℕ) → Numbered (write_line w g room)
unfolding write_line line_fits
line-numbered w g room =
    then-numbered (sound w && in_turn g.code w.phase w.items) 19 0 _ (omega arith)
    (bind-numbered (kinds_after g.kinds g.fields) _ (fields-numbered g.kinds g.fields) (λ left.
    then-numbered (good_text_or_none g.text) 20 0 _ (omega arith)
    (bind-numbered (line_fits w g room) _
    (then-numbered (leb (magnitudes (w.file.sum ⊕ sum_given g.amount)) most) 10 0 _ (omega arith)
    (then-numbered (leb (w.size + length (line_of g)) longest_file) 18 0 _ (omega arith)
    (last-numbered (leb (w.size + length (line_of g)) room))))
    (λ u. tt))))
  where
    last-numbered : (t : Bool) → Numbered (check t 15 0)
    last-numbered true = tt
    last-numbered false = omega arith
