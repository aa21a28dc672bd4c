-- The paper's session of ten lines, as the bench reads and prints it. Assumes nothing.
use Prim.Native.Nat.{ℕ}
use mathlib.Core.Path.{◌≡◌, refl, ◌∙◌}
use mathlib.Core.List.{List, [], ◌∷◌, ◌++◌}
use Rattle.lists.specs.Lists.{filter, take_out, put_before, place, times, is_empty, first_or}
use Rattle.lists.specs.Numbers.{listed, round_from}
use Rattle.tables.specs.Boot.{boot}
use Rattle.tables.specs.Readers.{line}
use Rattle.layout.specs.Bytes.{to_bytes}
use Rattle.rules.specs.Schedule.{joining, make_all_ready, start_first, switch, reschedule}
use Rattle.rules.specs.Calls.{step}
use Rattle.rules.specs.Enter.{numbered}
use Rattle.lines.specs.Hex.{digit_of, read_on, field_of, written}
use Rattle.lines.specs.Line.{line_length, line_of}
use Rattle.lines.specs.Answers.{newline, text_of}
use Rattle.feed.specs.Answers.{lines_of, answers}
use Rattle.feed.specs.Ruled.{ruled}
use Rattle.feed.proofs.FromBoot.{boot-ruled}

-- the digits of each line, and of each answer, are those of a number
pub typed : List ℕ → List ℕ
typed [] = []
typed (n ∷ ns) = written line_length n ++ newline ∷ typed ns

pub printed : List ℕ → List ℕ
printed [] = []
printed (n ∷ ns) = text_of n ++ printed ns

pub input : List ℕ
input =
    typed (
    0x060000001400000000
    ∷ 0x070000000100000000
    ∷ 0x030000000000000000
    ∷ 0x060000001400000000
    ∷ 0x070000000200000000
    ∷ 0x010000000000000000
    ∷ 0x0b0000000000000000
    ∷ 0x020000000000000000
    ∷ 0x010000000500000000
    ∷ 0x010000007800000000
    ∷ []
    )

pub output : List ℕ
output =
    printed (
    0x000000000100
    ∷ 0x000000001401
    ∷ 0x000000000001
    ∷ 0x000000000201
    ∷ 0x000000001402
    ∷ 0x000000000101
    ∷ 0x00ffffffff01
    ∷ 0x000000000102
    ∷ 0x02ffffffff02
    ∷ 0x01ffffffff02
    ∷ []
    )

by-rules : ruled boot (lines_of input) ≡ output
unfolding ruled lines_of input output typed printed line_of field_of read_on digit_of text_of written numbered step boot filter take_out put_before place times is_empty first_or listed round_from line joining make_all_ready start_first switch reschedule
by-rules = refl

pub paper-session : answers (to_bytes boot) input ≡ output
paper-session = boot-ruled input ∙ by-rules
