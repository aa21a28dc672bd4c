-- Kernels that are wrong, and a session that tells each of them from one that meets demand 2.
use Rattle.std.specs.Prelude.{ℕ, List, [], ◌∷◌, ◌≢◌, ◌≡◌, ℤ, pos}
use Rattle.promises.specs.Record.{Request}
use Rattle.promises.specs.Edges.{call}
use Rattle.cottonsedge.specs.Fields.{refusal_field, value_field}
use Rattle.demands.specs.Demands.{Kernel}

abbrev pub RefusesAll : Kernel → Type 0
RefusesAll k = (earlier : List Request) (bs : List ℕ) (q : Request) → refusal_field (k earlier bs q).answer ≢ 0

abbrev pub AnswersOne : Kernel → Type 0
AnswersOne k = (earlier : List Request) (bs : List ℕ) (q : Request) → value_field (k earlier bs q).answer ≡ 1

abbrev pub ChangesNothing : Kernel → Type 0
ChangesNothing k = (earlier : List Request) (bs : List ℕ) (q : Request) → (k earlier bs q).bytes ≡ bs

-- the first call of a session is run, and the rest are only answered
abbrev pub OnlyFirst : Kernel → Type 0
OnlyFirst k = (last : Request) (earlier : List Request) (bs : List ℕ) (q : Request) → (k (last ∷ earlier) bs q).bytes ≡ bs

-- the count in 0b is made up: the answer has one value for a semaphore, whatever the bytes and the calls before
abbrev pub MakesUpCount : Kernel → Type 0
MakesUpCount k = (v : ℤ → ℕ) × ((earlier : List Request) (bs : List ℕ) (a : ℤ) → value_field (k earlier bs (call 11 a)).answer ≡ v a)

-- any of the five
pub data Wrong (k : Kernel) : Type 0 where
  refuses_all : RefusesAll k → Wrong k
  answers_one : AnswersOne k → Wrong k
  changes_nothing : ChangesNothing k → Wrong k
  only_first : OnlyFirst k → Wrong k
  makes_up_count : MakesUpCount k → Wrong k

-- a semaphore is made with count 0 and asked for its count, is signalled, and is asked again; the latest call comes first
abbrev pub asks_twice : List Request
asks_twice = call 11 (pos 0) ∷ call 2 (pos 0) ∷ call 11 (pos 0) ∷ call 3 (pos 0) ∷ []
