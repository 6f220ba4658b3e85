-- The theorems on accepted files: their shape, what their trailers state, their numbers and their parts; and the reader's refusals. Assumes nothing.
use Prim.Native.Nat.{ℕ, ◌≤◌, ◌<◌}
use native.Mathlib.Omega.{arith}
use mathlib.Core.Path.{◌≡◌, ap, subst, ◌∙◌}
use lib.Dec.{T, leb, leb→le}
use lib.ListN.{length, take, drop}
use Rattle.rules.specs.Bytes.{Bytes}
use Rattle.rules.specs.Outcome.{refused, Refusal, refuse, fine}
use Rattle.rules.specs.Lines.{record_bytes, file_records}
use Rattle.rules.specs.Numbers.{magnitudes}
use Rattle.rules.specs.Limits.{most}
use Rattle.rules.specs.Totals.{Summary}
use Rattle.rules.specs.Verdict.{judge}
use Rattle.rules.specs.Parts.{groups_in, in_groups, in_accounts, in_details, Placed, group_at, account_at, detail_part_at, Detail, detail_in, detail_at}
use Rattle.rules.specs.Combine.{summary_of_all, concat}
use Rattle.rules.proofs.Tests.{and_left, and_right}
use Rattle.laws.specs.LawWords.{All, add_up, header_lines, group_parts, accounts_in, details_in, IsGroup, IsFile, FileParts, FileControlled, TotalsNest, ReadAnywhere, RunsAnywhere}
use Rattle.laws.proofs.Lists.{all_from}
use Rattle.laws.proofs.Shape.{is-file}
use Rattle.laws.proofs.Counts.{file-groups, file-accounts, file-details}
use Rattle.laws.proofs.ControlTotals.{file-controlled}
use Rattle.laws.proofs.SplitSums.{totals-of}
use Rattle.laws.proofs.KeptBytes.{kept-stay}
use Rattle.laws.proofs.Groups.{GoodGroup, decomposed, summary-is}
use Rattle.laws.proofs.PartSlices.{located-slice, no-part-in, some-part-in, group-part, account-part, detail-part}
use Rattle.laws.proofs.Refusals.{By, by_reader, judge-by}
use Rattle.laws.proofs.ForCode.{parts-of, header-bytes, groups-bytes}

-- ---- the shape of an accepted file

-- it is a 01, groups, and a 99, and nothing else; each group is a 02, one or more accounts, and a 98; each account a 03, 16s, and a 49
pub file-shape : (file : Bytes) (s : Summary) → judge file ≡ fine s → IsFile file
file-shape file s h = is-file file s h

-- the same in bytes: header lines, the groups' parts, the 99
pub file-parts : (file : Bytes) (s : Summary) → judge file ≡ fine s → FileParts file
file-parts file s h = parts-of file s h

-- each of its groups is its 02, its accounts and its 98
pub group-parts : (file : Bytes) (s : Summary) → judge file ≡ fine s → All IsGroup (groups_in file)
group-parts file s h = (is-file file s h).groups

-- ---- what its trailers state

-- every 49, 98 and 99 states the algebraic sum of the amounts, the number of accounts or groups, and the number of lines, 88s and both ends
-- included, of what it encloses
pub controls-match : (file : Bytes) (s : Summary) → judge file ≡ fine s → FileControlled file
controls-match file s h = file-controlled file s h

-- and these sums nest: the file's total is the sum of its groups', a group's of its accounts', an account's that of its 03 and its details
pub totals-nest : (file : Bytes) (s : Summary) → judge file ≡ fine s → TotalsNest file
totals-nest file s h = totals-of file (is-file file s h)

-- ---- its summary

-- the summary is what its records add up to
pub summary-adds-up : (file : Bytes) (s : Summary) → judge file ≡ fine s → s ≡ summary_of_all (file_records file)
summary-adds-up file s h = summary-is file s h

-- its magnitudes are within the bound of 10
pub magnitudes-bounded : (file : Bytes) (s : Summary) → judge file ≡ fine s → magnitudes s.sum ≤ most
magnitudes-bounded file s h = rw (summary-is file s h) (decomposed file s h).bounded

-- its number of groups is the number of the file's groups
pub groups-counted : (file : Bytes) (s : Summary) → judge file ≡ fine s → s.groups ≡ length (groups_in file)
groups-counted file s h = ap (λ (u : Summary). u.groups) (summary-is file s h) ∙ file-groups file (is-file file s h)

-- its number of accounts is the sum over the groups of the number of their accounts
pub accounts-counted : (file : Bytes) (s : Summary) → judge file ≡ fine s → s.accounts ≡ add_up (λ g. length (accounts_in g)) (groups_in file)
accounts-counted file s h = ap (λ (u : Summary). u.accounts) (summary-is file s h) ∙ file-accounts file (is-file file s h)

-- its number of details is the sum over the groups and their accounts of the number of their details
pub details-counted : (file : Bytes) (s : Summary) → judge file ≡ fine s → s.details ≡ add_up (λ g. add_up (λ a. length (details_in a)) (accounts_in g)) (groups_in file)
details-counted file s h = ap (λ (u : Summary). u.details) (summary-is file s h) ∙ file-details file (is-file file s h)

-- ---- 17

-- 17 is given for a group exactly from the file's number of groups on
pub no-such-group : (file : Bytes) (s : Summary) (i : ℕ) → judge file ≡ fine s → s.groups ≤ i → group_at file i ≡ refuse 17 0
unfolding group_at groups_in
no-such-group file s i h n = rw h (no-part-in 0 (in_groups (file_records file)) i (subst (λ (k : ℕ). k ≤ i) (groups-counted file s h) n))

pub such-group : (file : Bytes) (s : Summary) (i : ℕ) → judge file ≡ fine s → i < s.groups → (x : Placed) × (group_at file i ≡ fine x)
unfolding group_at groups_in
such-group file s i h n = rw h (some-part-in 0 (in_groups (file_records file)) i (subst (λ (k : ℕ). i < k) (groups-counted file s h) n))

-- for an account exactly from its group's number of accounts on
pub no-such-account : (file : Bytes) (g a : ℕ) (x : Placed) → group_at file g ≡ fine x → length (accounts_in x.records) ≤ a → account_at file g a ≡ refuse 17 0
unfolding account_at accounts_in
no-such-account file g a x h n = rw h (no-part-in x.place (in_accounts x.records) a n)

pub such-account : (file : Bytes) (g a : ℕ) (x : Placed) → group_at file g ≡ fine x → a < length (accounts_in x.records) → (y : Placed) × (account_at file g a ≡ fine y)
unfolding account_at accounts_in
such-account file g a x h n = rw h (some-part-in x.place (in_accounts x.records) a n)

-- for a detail exactly from its account's number of details on
pub no-such-detail : (file : Bytes) (g a d : ℕ) (x : Placed) → account_at file g a ≡ fine x → length (details_in x.records) ≤ d → detail_at file g a d ≡ refuse 17 0
unfolding detail_at detail_part_at details_in
no-such-detail file g a d x h n = rw (h, no-part-in x.place (in_details x.records) d n)

pub such-detail : (file : Bytes) (g a d : ℕ) (x : Placed) → account_at file g a ≡ fine x → d < length (details_in x.records) → (y : Detail) × (detail_at file g a d ≡ fine y)
unfolding detail_at detail_part_at details_in
such-detail file g a d x h n =
    let (y, e) = some-part-in x.place (in_details x.records) d n in
    (detail_in y, rw (h, e))

-- ---- parts are slices of the file

-- the part that a group call hands out is the slice of the file at the place that it answers; so with an account and with a detail
pub group-is-slice : (file : Bytes) (g : ℕ) (x : Placed) → group_at file g ≡ fine x
    → take (length (record_bytes x.records)) (drop x.place file) ≡ record_bytes x.records
group-is-slice file g x h = located-slice file x.place (record_bytes x.records) (group-part file g x h).located

pub account-is-slice : (file : Bytes) (g a : ℕ) (x : Placed) → account_at file g a ≡ fine x
    → take (length (record_bytes x.records)) (drop x.place file) ≡ record_bytes x.records
account-is-slice file g a x h = located-slice file x.place (record_bytes x.records) (account-part file g a x h).located

pub detail-is-slice : (file : Bytes) (g a d : ℕ) (x : Placed) → detail_part_at file g a d ≡ fine x
    → take (length (record_bytes x.records)) (drop x.place file) ≡ record_bytes x.records
detail-is-slice file g a d x h = located-slice file x.place (record_bytes x.records) (detail-part file g a d x h).located

-- the first bytes are the header lines, the next are the groups' parts
pub header-slice : (file : Bytes) (s : Summary) → judge file ≡ fine s → take (length (header_lines file)) file ≡ header_lines file
header-slice file s h = header-bytes file s h

pub groups-slice : (file : Bytes) (s : Summary) → judge file ≡ fine s
    → take (length (concat (group_parts file))) (drop (length (header_lines file)) file) ≡ concat (group_parts file)
groups-slice file s h = groups-bytes file s h

-- ---- groups are good anywhere

-- a group is read as itself, wherever its bytes stand before a line that isn't an 88
pub groups-read-anywhere : (file : Bytes) (s : Summary) → judge file ≡ fine s → All ReadAnywhere (groups_in file)
groups-read-anywhere file s h = all_from ReadAnywhere GoodGroup (λ g a bs f. kept-stay g bs a.kept f) (groups_in file) (decomposed file s h).groups

-- and it is accepted after the 01 of any other file, or after any group, where its lines respect the limit and the magnitudes leave room
pub groups-run-anywhere : (file : Bytes) (s : Summary) → judge file ≡ fine s → All RunsAnywhere (groups_in file)
groups-run-anywhere file s h = all_from RunsAnywhere GoodGroup (λ g a. a.runs-anywhere) (groups_in file) (decomposed file s h).groups

-- both, and its shape
pub groups-good : (file : Bytes) (s : Summary) → judge file ≡ fine s → All GoodGroup (groups_in file)
groups-good file s h = (decomposed file s h).groups

-- ---- the reader's refusals

-- the reader refuses by the numbers 1 to 13 only
pub reader-numbers : (file : Bytes) (why : Refusal) → judge file ≡ refused why → (1 ≤ why.number) × (why.number ≤ 13)
reader-numbers file why h =
    let b : T (by_reader why.number) = subst (By by_reader) h (judge-by file) in
    (leb→le 1 why.number (and_left (leb 1 why.number) _ b), leb→le why.number 13 (and_right (leb 1 why.number) _ b))

-- 14 is given by no input: the bound on magnitudes, 10, comes first
pub never-14 : (file : Bytes) (why : Refusal) → judge file ≡ refused why → ¬ (why.number ≡ 14)
never-14 file why h e = let n = reader-numbers file why h in omega (arith, n.1)
