-- Document 01, "Order (001)": which record may come next, and which group and account are open. Assumes nothing.
use Rattle.std.specs.Prelude.{Bool, true, false, cond, ◌||◌, List, [], ◌∷◌}
use Rattle.rules.specs.Lines.{Code, file_header, group_header, account_header, detail, account_trailer, group_trailer, file_trailer, continuation, same_code}
use Rattle.rules.specs.Totals.{Summary, no_summary, ◌⊞◌}

-- which codes may come after a record of this code: one 01; any number of groups; one 99; nothing after. A group: 02, one or more accounts, 98. An account: 03, any number of 16, 49.
abbrev pub may_follow : Code → List Code
may_follow file_header = group_header ∷ file_trailer ∷ []
may_follow group_header = account_header ∷ []
may_follow account_header = detail ∷ account_trailer ∷ []
may_follow detail = detail ∷ account_trailer ∷ []
may_follow account_trailer = account_header ∷ group_trailer ∷ []
may_follow group_trailer = group_header ∷ file_trailer ∷ []
may_follow file_trailer = []
-- never reached: a record of code 88 is itself out of order
may_follow continuation = []

unfoldable pub among : Code → List Code → Bool
among c [] = false
among c (d ∷ ds) = same_code c d || among c ds

-- nothing may come any more: the 99 was there
abbrev pub ended : List Code → Bool
ended [] = true
ended (c ∷ cs) = false

-- after a line of this code a group is open, an account is open; a line 88 is a further item of the writer's
abbrev pub group_open : Code → Bool
group_open file_header = false
group_open group_header = true
group_open account_header = true
group_open detail = true
group_open account_trailer = true
group_open group_trailer = false
group_open file_trailer = false
group_open continuation = true

abbrev pub account_open : Code → Bool
account_open file_header = false
account_open group_header = false
account_open account_header = true
account_open detail = true
account_open account_trailer = false
account_open group_trailer = false
account_open file_trailer = false
account_open continuation = true

-- the summary of the open group, and of the open account, after a line of this code that adds this; none where none is open
abbrev pub group_after : Code → Summary → Summary → Summary
group_after c group this = cond (group_open c) (group ⊞ this) no_summary

abbrev pub account_after : Code → Summary → Summary → Summary
account_after c account this = cond (account_open c) (account ⊞ this) no_summary
