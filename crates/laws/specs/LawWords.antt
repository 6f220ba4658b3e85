-- Words that the theorems are stated in: what a call wrote, the parts of a file, and what is said of them. Assumes nothing.
use Rattle.std.specs.Prelude.{ℕ, ◌+◌, ◌≤◌, ◌≡◌, List, [], ◌∷◌, ◌++◌, Bool, true, false, not, T, eqb, length, take}
use Rattle.std.proofs.Math.Option.{Option, none, some}
use Rattle.rules.specs.Bytes.{Bytes, LF}
use Rattle.rules.specs.Outcome.{fine}
use Rattle.rules.specs.Lines.{Code, file_header, group_header, account_header, detail, account_trailer, group_trailer, file_trailer, continuation, LineEnd, lacking, lf, crlf, Line, whole_line, begins, Record, lines_of, line_bytes, record_bytes, file_records}
use Rattle.rules.specs.Numbers.{Sum, zero_sum, ◌⊕◌, number, equals, magnitudes}
use Rattle.rules.specs.Amounts.{amount_in, amount_adds}
use Rattle.rules.specs.Limits.{most}
use Rattle.rules.specs.Grammar.{total, count, records}
use Rattle.rules.specs.Records.{Field, the, walk_record}
use Rattle.rules.specs.Totals.{Summary, no_summary, ◌⊞◌}
use Rattle.rules.specs.Order.{may_follow, among}
use Rattle.rules.specs.Verdict.{State, run, judge}
use Rattle.rules.specs.Parts.{heads, header_in, groups_in, in_accounts, in_details, receiver_of}
use Rattle.rules.specs.Combine.{summary_of_all, fresh_trailer, lines_within, concat, Answer}
use Rattle.rules.specs.Split.{groups_for}

-- ---- lists

-- a property of every element of a list
abbrev pub All : {A : Type 0} → (A → Type 0) → List A → Type 0
All P [] = Unit {0}
All P (x ∷ xs) = P x × All P xs

-- a number of each element, added up
unfoldable pub add_up : {A : Type 0} → (A → ℕ) → List A → ℕ
add_up f [] = 0
add_up f (x ∷ xs) = f x + add_up f xs

-- a sum of each element, added up
unfoldable pub sum_up : {A : Type 0} → (A → Sum) → List A → Sum
sum_up f [] = zero_sum
sum_up f (x ∷ xs) = f x ⊕ sum_up f xs

-- ---- bytes

-- the bytes end in LF
abbrev pub ends_in_lf : Bytes → Bool
ends_in_lf [] = false
ends_in_lf (b ∷ []) = eqb b LF
ends_in_lf (b ∷ c ∷ bs) = ends_in_lf (c ∷ bs)

-- ---- lines and records that stay themselves

-- the line has its line end
abbrev pub ends_line : LineEnd → Bool
ends_line lacking = false
ends_line lf = true
ends_line crlf = true

-- a line that has its end: its bytes before others are read as this line, then the lines of the others
pub record Whole (l : Line) : Type 0 where
  pub ended : T (ends_line l.line_end)
  pub stays : (bs : Bytes) → lines_of (whole_line l ++ bs) ≡ l ∷ lines_of bs

-- a record is a line that doesn't begin "88," with all "88," lines after it
abbrev pub Continues : Line → Type 0
Continues l = T (begins continuation l)

abbrev pub IsRecord : List Line → Type 0
IsRecord [] = ⊥
IsRecord (l ∷ ls) = T (not (begins continuation l)) × All Continues ls

-- records that stay themselves wherever their bytes stand before a line that isn't an 88
pub record Kept (rs : List Record) : Type 0 where
  pub wholes : All Whole (concat rs)
  pub are-records : All IsRecord rs

-- the record has one of these codes
pub record Of (cs : List Code) (r : Record) : Type 0 where
  pub code : Code
  pub is_code : T (heads code r)
  pub is_among : T (among code cs)

-- records of which the first has code c, the others one of cs
abbrev pub Begins : Code → List Code → List Record → Type 0
Begins c cs [] = ⊥
Begins c cs (r ∷ rs) = T (heads c r) × All (Of cs) rs

-- ---- calls

-- the call was not refused: its number is 0
abbrev pub NotRefused : Answer → Type 0
NotRefused x = x.refusal.number ≡ 0

-- what a call wrote: the first bytes of its output slice
abbrev pub written : Answer → Bytes
written x = take x.len x.output

-- what a call leaves: its answer, and its output slice
pub record Left (A : Type 0) : Type 0 where
  pub answer : A
  pub slice : Bytes

-- ---- the parts of a file, in bytes

-- the bytes of each of some groups
unfoldable pub parts_of : List (List Record) → List Bytes
parts_of [] = []
parts_of (g ∷ gs) = record_bytes g ∷ parts_of gs

-- a file's header lines; its groups' parts; and those of its groups for this receiver
unfoldable pub header_lines : Bytes → Bytes
header_lines file = record_bytes (header_in file)

unfoldable pub group_parts : Bytes → List Bytes
group_parts file = parts_of (groups_in file)

unfoldable pub group_parts_for : Bytes → Bytes → List Bytes
group_parts_for name file = parts_of (groups_for name (groups_in file))

-- ---- the parts of a file, in records

-- the accounts of a group, and the details of an account
unfoldable pub accounts_in : List Record → List (List Record)
accounts_in g = (in_accounts g).parts

unfoldable pub details_in : List Record → List (List Record)
details_in a = (in_details a).parts

-- an envelope: one record of code c, the parts, one record of code d
pub record Enclosed (c d : Code) (parts : List (List Record)) (rs : List Record) : Type 0 where
  pub header : Record
  pub trailer : Record
  pub is-header : T (heads c header)
  pub is-trailer : T (heads d trailer)
  pub whole : rs ≡ header ∷ (concat parts ++ (trailer ∷ []))

-- a detail is one record, a 16
abbrev pub IsDetail : List Record → Type 0
IsDetail [] = ⊥
IsDetail (r ∷ []) = T (heads detail r)
IsDetail (r ∷ q ∷ rs) = ⊥

-- an account is a 03, any number of details, a 49
pub record IsAccount (a : List Record) : Type 0 where
  pub enclosed : Enclosed account_header account_trailer (details_in a) a
  pub details : All IsDetail (details_in a)

-- a group is a 02, one or more accounts, a 98
pub record IsGroup (g : List Record) : Type 0 where
  pub enclosed : Enclosed group_header group_trailer (accounts_in g) g
  pub one-or-more : 1 ≤ length (accounts_in g)
  pub accounts : All IsAccount (accounts_in g)

-- a file is a 01, any number of groups, a 99
pub record IsFile (file : Bytes) : Type 0 where
  pub enclosed : Enclosed file_header file_trailer (groups_in file) (file_records file)
  pub groups : All IsGroup (groups_in file)

-- header, groups and 99 of a file, in records and in bytes; each part but the 99 ends in LF
pub record FileParts (file : Bytes) : Type 0 where
  pub header : Record
  pub trailer : Record
  pub one-header : header_in file ≡ header ∷ []
  pub is-header : T (heads file_header header)
  pub is-trailer : T (heads file_trailer trailer)
  pub records : file_records file ≡ header_in file ++ (concat (groups_in file) ++ (trailer ∷ []))
  pub bytes : file ≡ header_lines file ++ (concat (group_parts file) ++ line_bytes trailer)
  pub header-ends : T (ends_in_lf (header_lines file))
  pub groups-end : All (λ bs. T (ends_in_lf bs)) (group_parts file)

-- ---- what trailers state

-- the total of records: the algebraic sum of their amounts
abbrev pub total_of : List Record → Sum
total_of rs = (summary_of_all rs).sum

-- a trailer states this number of parts, where it states one: a 98 its accounts, a 99 its groups
abbrev pub States : Option ℕ → List Field → Type 0
States none fs = Unit {0}
States (some n) fs = number (the count fs).bytes ≡ n

-- the last of these records has code d, and states of all of them, itself included: their total, the number of parts, and the
-- number of their lines, 88s included
pub record Controlled (d : Code) (parts : Option ℕ) (rs : List Record) : Type 0 where
  pub before : List Record
  pub trailer : Record
  pub fields : List Field
  pub whole : rs ≡ before ++ (trailer ∷ [])
  pub is-trailer : T (heads d trailer)
  pub walked : walk_record d trailer ≡ fine fields
  pub states-total : T (equals (total_of rs) (amount_adds (amount_in (the total fields).bytes)))
  pub states-parts : States parts fields
  pub states-lines : number (the records fields).bytes ≡ length (concat rs)

-- a group's 98 and its accounts' 49s
pub record GroupControlled (g : List Record) : Type 0 where
  pub of-group : Controlled group_trailer (some (length (accounts_in g))) g
  pub of-accounts : All (Controlled account_trailer none) (accounts_in g)

-- a file's 99, and its groups' 98s and 49s
pub record FileControlled (file : Bytes) : Type 0 where
  pub of-file : Controlled file_trailer (some (length (groups_in file))) (file_records file)
  pub of-groups : All GroupControlled (groups_in file)

-- the file's total is the sum of its groups', a group's of its accounts', an account's that of the amounts in its 03 and its details
pub record TotalsNest (file : Bytes) : Type 0 where
  pub of-file : total_of (file_records file) ≡ sum_up total_of (groups_in file)
  pub of-groups : All (λ g. total_of g ≡ sum_up total_of (accounts_in g)) (groups_in file)
  pub of-accounts : All (λ g. All (λ a. total_of a ≡ total_of (in_details a).waiting ⊕ sum_up total_of (details_in a)) (accounts_in g)) (groups_in file)

-- ---- groups anywhere

-- the state between groups: after the 01 or a 98, under a limit, with the summary of the file so far
abbrev pub between : ℕ → Summary → State
between limit file = record { expected = may_follow group_trailer; limit = limit; file = file; group = no_summary; account = no_summary }

-- records are read as themselves wherever their bytes stand before a line that isn't an 88
abbrev pub ReadAnywhere : List Record → Type 0
ReadAnywhere rs = (bs : Bytes) → T (not (heads continuation (lines_of bs))) → file_records (record_bytes rs ++ bs) ≡ rs ++ file_records bs

-- a group is good anywhere: it runs from between groups to between groups, at any place p, under any limit that its lines respect, after
-- any file whose magnitudes leave room, and adds its own numbers
abbrev pub RunsAnywhere : List Record → Type 0
RunsAnywhere g =
    (p limit : ℕ) (file : Summary) → T (lines_within limit (concat g)) → magnitudes file.sum + magnitudes (summary_of_all g).sum ≤ most
    → run p (between limit file) g ≡ fine (between limit (file ⊞ summary_of_all g))

-- so many records, and nothing else: what a 01 or a 99 adds
abbrev pub only_lines : ℕ → Summary
only_lines n = record { sum = zero_sum; groups = 0; accounts = 0; details = 0; records = n }

-- ---- files put together

-- the new file has the file's header, these groups, bytes unchanged, and a fresh 99 for what they add; it is accepted, and its summary is
-- what they add, and one record more
pub record Assembled (file : Bytes) (gs : List (List Record)) (out : Bytes) : Type 0 where
  pub header : header_in out ≡ header_in file
  pub groups : groups_in out ≡ gs
  pub bytes : out ≡ header_lines file ++ (concat (parts_of gs) ++ fresh_trailer (summary_of_all (header_in file ++ concat gs)))
  pub accepted : judge out ≡ fine (summary_of_all (header_in file ++ concat gs) ⊞ only_lines 1)

-- ---- combine

-- the new file has the first file's header and groups, then the second's groups, bytes unchanged, and a fresh 99 for what they add
pub record CombinedParts (a b out : Bytes) : Type 0 where
  pub header : header_lines out ≡ header_lines a
  pub groups : group_parts out ≡ group_parts a ++ group_parts b
  pub exactly-those : groups_in out ≡ groups_in a ++ groups_in b
  pub bytes : out ≡ header_lines a ++ (concat (group_parts a ++ group_parts b) ++ fresh_trailer (summary_of_all (header_in a ++ concat (groups_in a ++ groups_in b))))

-- its summary u, from those of the two files, s and t: total and counts add up; its records are those of the first header, of both files'
-- groups, and one 99
pub record CombinedSummary (a b : Bytes) (s t u : Summary) : Type 0 where
  pub sum : u.sum ≡ s.sum ⊕ t.sum
  pub groups : u.groups ≡ s.groups + t.groups
  pub accounts : u.accounts ≡ s.accounts + t.accounts
  pub details : u.details ≡ s.details + t.details
  pub records : u.records ≡ (summary_of_all (header_in a)).records + (summary_of_all (concat (groups_in a))).records + (summary_of_all (concat (groups_in b))).records + 1

-- ---- split

-- hs are exactly those of the groups gs whose receiver equals the name byte for byte, in their order
pub data Exactly (name : Bytes) : List (List Record) → List (List Record) → Type 0 where
  nothing : Exactly name [] []
  kept : {g : List Record} {gs hs : List (List Record)} → receiver_of g ≡ name → Exactly name gs hs → Exactly name (g ∷ gs) (g ∷ hs)
  left_out : {g : List Record} {gs hs : List (List Record)} → ¬ (receiver_of g ≡ name) → Exactly name gs hs → Exactly name (g ∷ gs) hs

-- the new file has the file's header and exactly its groups for the name, bytes unchanged, and a fresh 99 for what they add
pub record SplitParts (name file out : Bytes) : Type 0 where
  pub header : header_lines out ≡ header_lines file
  pub groups : group_parts out ≡ group_parts_for name file
  pub exactly-those : Exactly name (groups_in file) (groups_in out)
  pub bytes : out ≡ header_lines file ++ (concat (group_parts_for name file) ++ fresh_trailer (summary_of_all (header_in file ++ concat (groups_for name (groups_in file)))))
