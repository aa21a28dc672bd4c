use Rattle.feed.specs.Feed.{holding}
use Rattle.feed.specs.Chunks.{start}
use Rattle.bench.proofs.Turns.{Answered}
use Rattle.bench.proofs.serve.Given as goal

abbrev pub invariant-loop : goal.invariant-loop
invariant-loop g l = Answered (start l.initial.tables) (holding l.tables l.part) (g.R.Read.remaining l.initial.input) (g.R.Read.remaining l.input) (g.W.Write.contents l.initial.output) (g.W.Write.contents l.output)
