use Rattle.std.proofs.Common.{take, ◌≤◌, ◌*◌}
use Rattle.lines.specs.Answers.{answer_length}
use Rattle.feed.specs.Feed.{holding, ServesAll}
use Rattle.feed.proofs.feed.feed_all.Given as goal

abbrev pub invariant-loop-c : goal.invariant-loop-c
invariant-loop-c l = record {
  room : l.written ≤ answer_length * l.c-index;
  served : ServesAll (holding l.initial.tables l.initial.part) (take l.c-index l.chunk) l.tables l.part l.written l.initial.out l.out;
}
