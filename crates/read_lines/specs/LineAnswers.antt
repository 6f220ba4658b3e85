-- What the answers about lines say in the rules' terms. Assumes nothing.
use Rattle.std.specs.Prelude.{ℕ, ◌+◌, ◌-◌, ◌≤◌, ◌<◌, ◌≡◌, length, drop}
use Rattle.std.specs.Prelude as prelude
use Rattle.std.proofs.Math.Option.{Option, none, some}
use Rattle.rules.specs.Bytes.{Bytes}
use Rattle.rules.specs.Lines as rules
use Rattle.base_codes.specs.CodeMeaning.{code_meant}
use Rattle.base_codes.specs.declared.Code.{Code}
use Rattle.read_lines.specs.declared.Lines.{Lines}
use Rattle.read_lines.specs.LineLengths.{run, stops_at, further}

-- in the 64 bytes at `at` the first byte outside stands at n; or none does, and n is no place there
pub record BlockIs (s : Bytes) (at high n : ℕ) : Type 0 where
  pub low : n ≤ 255
  pub found : n < 64 → run (stops_at high) (drop at s) ≡ n
  pub missed : 64 ≤ n → at + run (stops_at high) (drop at s) ≡ at + 64 + run (stops_at high) (drop (at + 64) s)

-- a line's code, if it has one
abbrev pub code_found : prelude.Option Code → Option rules.Code
code_found prelude.None = none
code_found (prelude.Some c) = some (code_meant c)

-- from `at` on: how many 88 lines stand there, and where they end
pub record LinesAre (r : Lines) (at : ℕ) (s : Bytes) : Type 0 where
  pub count : r.count.0 ≡ length (further (rules.lines_of (drop at s)))
  pub ends : r.end.0 ≡ at + rules.record_size (further (rules.lines_of (drop at s)))
  pub within : r.end.0 ≤ length s + (at - length s)
  pub few : at + r.count.0 ≤ r.end.0
