use Rattle.std.proofs.Common.{◌≡◌, ◌++◌, ◌-◌, ◌≤◌, length, map, drop}
use Rattle.std.specs.Prelude.{All}
use Rattle.sc_lines.specs.Split.{tokens_of, token_lines, directive_at, FollowFrom}
use Rattle.sc_lines.proofs.Splits.{behind}
use Rattle.sc_lines.proofs.split.lines.Given as goal

abbrev pub invariant-loop-first : goal.invariant-loop-first
invariant-loop-first l = record {
  tokens_are : map (tokens_of l.tokens) l.lines.items ++ token_lines (drop l.first l.tokens) ≡ token_lines l.tokens;
  directives : map (λ l. l.directive) l.lines.items ≡ map (λ line. directive_at l.standard l.names (tokens_of l.tokens line)) l.lines.items;
  within : All (λ line. (line.first ≤ line.end) × (line.end ≤ length l.tokens)) l.lines.items;
  follow : FollowFrom 0 l.lines.items;
  behind : behind 0 l.lines.items ≡ l.first;
}

abbrev pub decreases-loop-first : goal.decreases-loop-first
decreases-loop-first l = length l.tokens - l.first
