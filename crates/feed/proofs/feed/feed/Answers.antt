-- The part that is passed on is what is taken. Assumes nothing.
use Rattle.std.proofs.Common.{◌≡◌, ◌/◌, length, take, sym}
use Rattle.lists.proofs.ListLaws.{take-least, least-long}
use Rattle.lines.specs.Answers.{answer_length}
use Rattle.feed.specs.Feed.{taken}
use Rattle.feed.proofs.FeedLaws.{front-counts}
use Rattle.feed.proofs.feed.feed.Goals as goal

pub returns : goal.returns
unfolding taken
returns c =
    let most = length c.args.out.now / answer_length in
    let chunk = c.args.chunk.now in
    let all = c.feed_all-written.ensures in
    let used : c.min-used.result ≡ length (take c.min-used.result chunk) = rw c.min-used.ensures (sym (least-long most chunk)) in
    record { serves = rw (← take-least most chunk, ← c.min-used.ensures) record { held-is = all.held-is; used-is = used; written_is = all.written_is; out-is = all.out-is }; within = front-counts all }
