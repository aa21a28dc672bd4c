-- What a run has read and written so far, where the bytes to come and the bytes written are known. Assumes nothing.
use Rattle.std.proofs.Common.{◌≡◌, ℕ, List, [], ◌++◌, take, OnOk, Option, Some, None, Result, Ok, Err, refl, sym, ◌∙◌, append_assoc, append-nil}
use Rattle.std.specs.Io.KnownBytes.{Appends, Consumes, ReadConsumes}
use Rattle.std.specs.Result.{result_unwrap_or}
use Rattle.feed.specs.Chunks.{start}
use Rattle.feed.specs.Feed.{Held, held_after, written_over, ending}
use Rattle.feed.proofs.FeedLaws.{held-append, written-append}
use Rattle.feed.proofs.Whole.{whole-start}
use Rattle.bench.specs.Run.{AllAnswered}

pub record Answered (start h : Held) (input input' output output' : Option (List ℕ)) : Type 0 where
  pub read : List ℕ
  pub consumed : Consumes input input' read
  pub wrote : Appends output output' (written_over start read)
  pub held : h ≡ held_after start read

consumes-none : (known : Option (List ℕ)) → Consumes known known []
consumes-none None = tt
consumes-none (Some xs) = refl

appends-none : (known : Option (List ℕ)) → Appends known known []
appends-none None = tt
appends-none (Some xs) = sym (append-nil xs)

consumes-more : (a b c : Option (List ℕ)) (us vs : List ℕ) → Consumes a b us → Consumes b c vs → Consumes a c (us ++ vs)
consumes-more None b c us vs h k = tt
consumes-more (Some xs) (Some ys) (Some zs) us vs h k = h ∙ rw k (sym (append_assoc us vs zs))
consumes-more (Some xs) (Some ys) None us vs h k = k
consumes-more (Some xs) None c us vs h k = absurd h

appends-more : (a b c : Option (List ℕ)) (us vs : List ℕ) → Appends a b us → Appends b c vs → Appends a c (us ++ vs)
appends-more None b c us vs h k = tt
appends-more (Some xs) (Some ys) (Some zs) us vs h k = k ∙ rw h (append_assoc xs us vs)
appends-more (Some xs) (Some ys) None us vs h k = k
appends-more (Some xs) None c us vs h k = absurd h

-- a read, of which a failure counts as the end
pub read-consumes : {E : Type 0} (old new : Option (List ℕ)) (r : Result ℕ E) (buf : List ℕ) → ReadConsumes old new r buf → Consumes old new (take (result_unwrap_or r 0) buf)
read-consumes old new (Ok n) buf h = h.0
read-consumes None new (Err e) buf h = tt
read-consumes (Some xs) (Some ys) (Err e) buf h = sym h
read-consumes (Some xs) None (Err e) buf h = h

pub answered-none : (h : Held) (input output : Option (List ℕ)) → Answered h h input input output output
unfolding held_after written_over
answered-none h input output = record { read = []; consumed = consumes-none input; wrote = appends-none output; held = refl }

pub answered-more : {start h h' : Held} {a b c p q r : Option (List ℕ)} (vs : List ℕ) → Answered start h a b p q → Consumes b c vs → Appends q r (written_over h vs) → h' ≡ held_after h vs → Answered start h' a c p r
answered-more {start} {a = a} {b} {c} {p} {q} {r} vs so-far consumed wrote held =
    record {
      read = so-far.read ++ vs;
      consumed = consumes-more a b c so-far.read vs so-far.consumed consumed;
      wrote = rw (written-append start so-far.read vs, ← so-far.held) (appends-more p q r (written_over start so-far.read) _ so-far.wrote wrote);
      held = rw (held-append start so-far.read vs, ← so-far.held) held;
    }

-- a read that gave nothing
pub answered-still : {start h : Held} {a b c p q : Option (List ℕ)} → Answered start h a b p q → Consumes b c [] → Answered start h a c p q
unfolding held_after written_over
answered-still {q = q} so-far consumed = answered-more [] so-far consumed (appends-none q) refl

-- all that was read is answered at the end
pub answered-all : {bytes : List ℕ} {h : Held} {a b p q : Option (List ℕ)} (r : Option (List ℕ)) → Answered (start bytes) h a b p q → Appends q r (written_over h (ending h.line)) →
    AllAnswered bytes a b p r
answered-all {bytes} {p = p} {q} r so-far last =
    (so-far.read, so-far.consumed, rw (← whole-start bytes so-far.read, ← so-far.held) (appends-more p q r _ _ so-far.wrote last))

pub on_ok : {T E P Q : Type 0} (r : Result T E) → (P → Q) → OnOk r P → OnOk r Q
on_ok (Ok x) f h = f h
on_ok (Err e) f h = tt
