-- The line and its answer, as the definition has them. Assumes nothing.
use Rattle.lines.proofs.AnswerLaws.{text-over}
use Rattle.feed.specs.Feed.{holding}
use Rattle.feed.proofs.FeedLaws.{serves-newline}
use Rattle.feed.proofs.feed.end_line.Goals as goal

pub returns : goal.returns
returns c =
    let answered = rw c.held.ensures at c.answer_line-answer.ensures in
    serves-newline (holding c.args.tables.now c.args.part.now) _ _ _ _ answered.tables c.new.ensures (rw (c.copy_from_slice.ensures.after, c.answer_text.ensures, answered.answer, text-over))
