-- What the judgement of a field says of amounts: a field of an amount's or a total's kind is one, and only a type asks for an amount or for a type after it. Assumes nothing.
use Prim.Native.Nat.{ℕ, zero, suc, ◌≤◌}
use native.Mathlib.Omega.{arith}
use mathlib.Core.Path.{◌≡◌, refl, subst}
use mathlib.Core.Bool.{Bool, true, false, cond, not, ◌&&◌, ◌||◌, or-true}
use mathlib.Core.List.{List, [], ◌∷◌}
use lib.Dec.{T, T_not, leb}
use lib.ListN.{length}
use Rattle.rules.specs.Bytes.{Bytes, is_empty, between, all, starts_with, one_of, just, slash}
use Rattle.rules.specs.Numbers.{is_digit, digits, number, without_sign}
use Rattle.rules.specs.Dates.{is_date, is_time}
use Rattle.rules.specs.TypeCodes.{type_class}
use Rattle.rules.specs.Grammar.{Kind, name, reference, ultimate_receiver, date, time, time_or_none, file_number, physical_length, block_size, version, group_status, currency, modifier, first_type, further_type, status_amount, amount, item_count, funds, detail_type, text, further_text, split_amount, pair_count, days, day_amount, total, count, records, nothing, same_kind, Judged, bad, good, fits, is_currency, is_unsigned, is_signed, is_length, pairs, pairs_of, funds_of, item_of, detail_of, piece_of, judged}
use Rattle.rules.proofs.Tests.{Known, holds, fails, known}
use Rattle.base_digits.proofs.DigitTests.{and_left, and_right, at_least}
use Rattle.base_digits.proofs.SignLaws.{unsigned_signed}
use Rattle.laws.specs.LawWords.{All}
use Rattle.laws_amounts.specs.AmountWords.{is_amount}

-- ---- kinds

-- the field adds its amount to the total
abbrev pub bears_amount : Kind → Bool
bears_amount k = same_kind k amount || same_kind k status_amount

-- the field is an amount or a total
abbrev pub states_amount : Kind → Bool
states_amount k = same_kind k amount || (same_kind k status_amount || same_kind k total)

-- the field is a type, which asks for its amount
abbrev pub is_type : Kind → Bool
is_type k = (same_kind first_type k || same_kind further_type k) || same_kind detail_type k

-- the field neither adds an amount nor asks for one
abbrev pub quiet : Kind → Bool
quiet k = not (bears_amount k) && not (is_type k)

abbrev pub AllQuiet : List Kind → Type 0
AllQuiet ks = All (λ k. T (quiet k)) ks

-- ---- an amount's bytes

some-there : (ds : Bytes) → 1 ≤ length ds → not (is_empty ds) ≡ true
unfolding is_empty
some-there [] h = absurd (omega arith)
some-there (d ∷ ds) h = refl

-- digits after at most a sign
signed_is : (bs : Bytes) → is_signed bs ≡ true → is_amount bs ≡ true
unfolding is_signed digits
signed_is bs e =
    let ds = without_sign bs in
    let some : 1 ≤ length ds = at_least 1 18 (length ds) (and_left (between 1 18 (length ds)) (all is_digit ds) e) in
    rw (some-there ds some, and_right (between 1 18 (length ds)) (all is_digit ds) e) (or-true (is_empty bs))

-- nothing, or what is an amount
or-empty : (bs : Bytes) (t : Bool) → (t ≡ true → is_amount bs ≡ true) → (is_empty bs || t) ≡ true → is_amount bs ≡ true
or-empty bs t h e = go (known (is_empty bs))
  where
    go : Known (is_empty bs) → is_amount bs ≡ true
    go (holds n) = rw n
    go (fails n) = h (rw n at e)

-- ---- each kind

-- pairs are quiet, however many
pairs-quiet : (x : ℕ) → AllQuiet (pairs x)
unfolding pairs
pairs-quiet zero = tt
pairs-quiet (suc x) = (tt, (tt, pairs-quiet x))

abbrev pub Says : Kind → Bytes → Judged → Type 0
Says k bs (bad n) = Unit {0}
Says k bs (good new) = (T (states_amount k) → is_amount bs ≡ true) × (T (not (is_type k)) → AllQuiet new)

module _ (k : Kind) (bs : Bytes) where
  -- an amount or a total
  amount-says : (t : Bool) → (t ≡ true → is_amount bs ≡ true) → Says k bs (fits t)
  amount-says true h = (λ s. h refl, λ m. tt)
  amount-says false h = tt

  either-says : (t : Bool) (i j : Judged) → Says k bs i → Says k bs j → Says k bs (cond t i j)
  either-says true i j h g = h
  either-says false i j h g = g

  module _ (n : T (not (states_amount k))) where
    -- no amount, and no further field
    fits-say : (t : Bool) → Says k bs (fits t)
    fits-say true = (λ s. absurd (T_not (states_amount k) n s), λ m. tt)
    fits-say false = tt

    -- a type, whatever it asks for
    type-says : T (is_type k) → (j : Judged) → Says k bs j
    type-says t (bad m) = tt
    type-says t (good new) = (λ s. absurd (T_not (states_amount k) n s), λ m. absurd (T_not (is_type k) m t))

    -- no type, and quiet fields after it
    more-says : (new : List Kind) → AllQuiet new → Says k bs (good new)
    more-says new q = (λ s. absurd (T_not (states_amount k) n s), λ m. q)

    piece-says : Says k bs (piece_of bs)
    unfolding piece_of
    piece-says = either-says (not (is_empty bs) && not (starts_with slash bs)) (good (further_text ∷ [])) (bad 7) (more-says (further_text ∷ []) (tt, tt)) tt

    pairs-say : Says k bs (pairs_of bs)
    unfolding pairs_of
    pairs-say = either-says (digits 1 3 bs && leb 1 (number bs)) (good (pairs (number bs))) (bad 8) (more-says (pairs (number bs)) (pairs-quiet (number bs))) tt

    funds-say : Says k bs (funds_of bs)
    unfolding funds_of
    funds-say =
        either-says (is_empty bs || one_of 48 50 bs || just 90 bs) _ _ (more-says [] tt)
        (either-says (just 83 bs) _ _ (more-says (split_amount ∷ split_amount ∷ split_amount ∷ []) (tt, (tt, (tt, tt))))
        (either-says (just 86 bs) _ _ (more-says (date ∷ time_or_none ∷ []) (tt, (tt, tt)))
        (either-says (just 68 bs) _ _ (more-says (pair_count ∷ []) (tt, tt)) tt)))

pub judged-says : (k : Kind) (bs : Bytes) → Says k bs (judged k bs)
unfolding judged
judged-says name bs = fits-say name bs tt (between 1 76 (length bs))
judged-says reference bs = fits-say reference bs tt (leb (length bs) 76)
judged-says ultimate_receiver bs = fits-say ultimate_receiver bs tt (leb (length bs) 76)
judged-says date bs = fits-say date bs tt (is_date bs)
judged-says time bs = fits-say time bs tt (is_time bs)
judged-says time_or_none bs = fits-say time_or_none bs tt (is_empty bs || is_time bs)
judged-says file_number bs = fits-say file_number bs tt (digits 1 9 bs)
judged-says physical_length bs = fits-say physical_length bs tt (is_empty bs || is_length bs)
judged-says block_size bs = fits-say block_size bs tt (digits 0 9 bs)
judged-says version bs = either-says version bs (just 50 bs) (good []) (bad 9) (more-says version bs tt [] tt) tt
judged-says group_status bs = fits-say group_status bs tt (one_of 49 52 bs)
judged-says currency bs = fits-say currency bs tt (is_currency bs)
judged-says modifier bs = fits-say modifier bs tt (is_empty bs || one_of 49 52 bs)
judged-says first_type bs = type-says first_type bs tt tt (cond (is_empty bs) (good (nothing ∷ nothing ∷ nothing ∷ [])) (item_of (type_class bs)))
judged-says further_type bs = type-says further_type bs tt tt (item_of (type_class bs))
judged-says status_amount bs = amount-says status_amount bs (is_empty bs || is_signed bs) (or-empty bs (is_signed bs) (signed_is bs))
judged-says amount bs = amount-says amount bs (is_empty bs || is_unsigned bs) (or-empty bs (is_unsigned bs) (λ u. signed_is bs (unsigned_signed bs u)))
judged-says item_count bs = fits-say item_count bs tt (digits 0 9 bs)
judged-says funds bs = funds-say funds bs tt
judged-says detail_type bs = type-says detail_type bs tt tt (detail_of (type_class bs))
judged-says text bs = either-says text bs (just slash bs) (good []) (piece_of bs) (more-says text bs tt [] tt) (piece-says text bs tt)
judged-says further_text bs = piece-says further_text bs tt
judged-says split_amount bs = fits-say split_amount bs tt (digits 0 18 bs)
judged-says pair_count bs = pairs-say pair_count bs tt
judged-says days bs = fits-say days bs tt (digits 1 3 bs)
judged-says day_amount bs = fits-say day_amount bs tt (digits 1 18 bs)
judged-says total bs = amount-says total bs (is_signed bs) (signed_is bs)
judged-says count bs = fits-say count bs tt (digits 1 9 bs)
judged-says records bs = fits-say records bs tt (digits 1 9 bs)
judged-says nothing bs = fits-say nothing bs tt (is_empty bs)

-- of a good field
module _ (k : Kind) (bs : Bytes) (new : List Kind) (e : judged k bs ≡ good new) where
  says : Says k bs (good new)
  says = subst (Says k bs) e (judged-says k bs)

  -- an amount or a total is one
  pub amount-given : T (states_amount k) → is_amount bs ≡ true
  amount-given = says.0

  -- no type, so quiet fields after it
  pub quiet-after : T (not (is_type k)) → AllQuiet new
  quiet-after = says.1
