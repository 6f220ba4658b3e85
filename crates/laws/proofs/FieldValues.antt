-- What the judgement of a field says, kind by kind: a refusal's number is 7, 8 or 9, and a simple field asks for no further one. Assumes nothing.
use mathlib.Core.Path.{◌≡◌, refl}
use mathlib.Core.Bool.{Bool, true, false, cond, not, ◌&&◌, ◌||◌}
use mathlib.Core.List.{List, [], ◌∷◌}
use lib.Dec.{T, T_not, leb}
use lib.ListN.{length}
use Rattle.rules.specs.Bytes.{Bytes, is_empty, between, starts_with, one_of, just, slash}
use Rattle.rules.specs.Numbers.{digits, number}
use Rattle.rules.specs.Dates.{is_date, is_time}
use Rattle.rules.specs.TypeCodes.{Class, status, summary_only, summary_or_detail, non_monetary, unknown, type_class}
use Rattle.rules.specs.Grammar.{Kind, name, reference, ultimate_receiver, date, time, time_or_none, file_number, physical_length, block_size, version, group_status, currency, modifier, first_type, further_type, status_amount, amount, item_count, funds, detail_type, text, further_text, split_amount, pair_count, days, day_amount, total, count, records, nothing, kind_number, same_kind, Judged, bad, good, fits, is_currency, is_unsigned, is_signed, is_length, pairs, pairs_of, funds_of, item_of, detail_of, piece_of, judged}

-- the fields of 01, 02 and the trailers: no amount, and no further field
abbrev pub simple : Kind → Bool
simple k = leb (kind_number k) 13 || between 27 29 (kind_number k)

abbrev pub Says : Kind → Bytes → Judged → Type 0
Says k bs (bad n) = T (between 7 9 n)
Says k bs (good new) = T (simple k) → (new ≡ []) × (T (same_kind physical_length k) → T (is_empty bs || is_length bs))

module _ (k : Kind) (bs : Bytes) where
  fits-say : (t : Bool) → T (not (same_kind physical_length k)) → Says k bs (fits t)
  fits-say true n = λ s. (refl, λ l. absurd (T_not (same_kind physical_length k) n l))
  fits-say false n = tt

  either-says : (t : Bool) (i j : Judged) → Says k bs i → Says k bs j → Says k bs (cond t i j)
  either-says true i j h g = h
  either-says false i j h g = g

  module _ (n : T (not (simple k))) where
    more-says : (ks : List Kind) → Says k bs (good ks)
    more-says ks = λ s. absurd (T_not (simple k) n s)

    item-says : (c : Class) → Says k bs (item_of c)
    item-says status = more-says _
    item-says summary_only = more-says _
    item-says summary_or_detail = more-says _
    item-says non_monetary = tt
    item-says unknown = tt

    detail-says : (c : Class) → Says k bs (detail_of c)
    detail-says status = tt
    detail-says summary_only = tt
    detail-says summary_or_detail = more-says _
    detail-says non_monetary = more-says _
    detail-says unknown = tt

    piece-says : Says k bs (piece_of bs)
    unfolding piece_of
    piece-says = either-says (not (is_empty bs) && not (starts_with slash bs)) (good (further_text ∷ [])) (bad 7) (more-says _) tt

    pairs-say : Says k bs (pairs_of bs)
    unfolding pairs_of
    pairs-say = either-says (digits 1 3 bs && leb 1 (number bs)) (good (pairs (number bs))) (bad 8) (more-says _) tt

    funds-say : Says k bs (funds_of bs)
    unfolding funds_of
    funds-say =
        either-says (is_empty bs || one_of 48 50 bs || just 90 bs) _ _ (more-says _)
        (either-says (just 83 bs) _ _ (more-says _)
        (either-says (just 86 bs) _ _ (more-says _)
        (either-says (just 68 bs) _ _ (more-says _) tt)))

length-says : (bs : Bytes) (t : Bool) → (T t → T (is_empty bs || is_length bs)) → Says physical_length bs (fits t)
length-says bs true h = λ s. (refl, λ l. h tt)
length-says bs false h = tt

pub judged-says : (k : Kind) (bs : Bytes) → Says k bs (judged k bs)
unfolding judged
judged-says name bs = fits-say name bs (between 1 76 (length bs)) tt
judged-says reference bs = fits-say reference bs (leb (length bs) 76) tt
judged-says ultimate_receiver bs = fits-say ultimate_receiver bs (leb (length bs) 76) tt
judged-says date bs = fits-say date bs (is_date bs) tt
judged-says time bs = fits-say time bs (is_time bs) tt
judged-says time_or_none bs = fits-say time_or_none bs (is_empty bs || is_time bs) tt
judged-says file_number bs = fits-say file_number bs (digits 1 9 bs) tt
judged-says physical_length bs = length-says bs (is_empty bs || is_length bs) (λ h. h)
judged-says block_size bs = fits-say block_size bs (digits 0 9 bs) tt
judged-says version bs = either-says version bs (just 50 bs) (good []) (bad 9) (λ s. (refl, λ l. absurd l)) tt
judged-says group_status bs = fits-say group_status bs (one_of 49 52 bs) tt
judged-says currency bs = fits-say currency bs (is_currency bs) tt
judged-says modifier bs = fits-say modifier bs (is_empty bs || one_of 49 52 bs) tt
judged-says first_type bs =
    either-says first_type bs (is_empty bs) (good (nothing ∷ nothing ∷ nothing ∷ [])) (item_of (type_class bs)) (λ s. absurd s) (item-says first_type bs tt (type_class bs))
judged-says further_type bs = item-says further_type bs tt (type_class bs)
judged-says status_amount bs = fits-say status_amount bs (is_empty bs || is_signed bs) tt
judged-says amount bs = fits-say amount bs (is_empty bs || is_unsigned bs) tt
judged-says item_count bs = fits-say item_count bs (digits 0 9 bs) tt
judged-says funds bs = funds-say funds bs tt
judged-says detail_type bs = detail-says detail_type bs tt (type_class bs)
judged-says text bs = either-says text bs (just slash bs) (good []) (piece_of bs) (λ s. absurd s) (piece-says text bs tt)
judged-says further_text bs = piece-says further_text bs tt
judged-says split_amount bs = fits-say split_amount bs (digits 0 18 bs) tt
judged-says pair_count bs = pairs-say pair_count bs tt
judged-says days bs = fits-say days bs (digits 1 3 bs) tt
judged-says day_amount bs = fits-say day_amount bs (digits 1 18 bs) tt
judged-says total bs = fits-say total bs (is_signed bs) tt
judged-says count bs = fits-say count bs (digits 1 9 bs) tt
judged-says records bs = fits-say records bs (digits 1 9 bs) tt
judged-says nothing bs = fits-say nothing bs (is_empty bs) tt
