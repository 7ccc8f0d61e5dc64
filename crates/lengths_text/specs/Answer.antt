-- L13: what is printed for a headway and a speed: both lengths in metres with millimetres, or the refusal in words with its number.
use Rattle.std.specs.Prelude.{ℕ, List, ◌++◌, eqb, Float}
use Rattle.laws.specs.Choice.{when◌then◌else◌}
use Rattle.numerals.specs.Words.{ascii}
use Rattle.numerals.specs.Digits.{decimal_digits, fitting}
use Rattle.block_lengths.specs.declared.BlockLengths.{BlockLengths}
use Rattle.block_lengths.specs.declared.LengthsAnswer.{LengthsAnswer}
use Rattle.block_lengths.specs.Lengths.{answer}
use Rattle.block_lengths.specs.Millimetres.{millimetres}
use Rattle.lengths_text.specs.Places.{metres_text}

-- a word, and a number behind it
unfoldable pub named : List ℕ → ℕ → List ℕ
named word n = word ++ decimal_digits 10 n

-- a length in metres with millimetres, and a word behind it
unfoldable pub measured : Float → List ℕ → List ℕ
measured x word = metres_text (millimetres x) ++ word

-- the lengths, each with its table
unfoldable pub lengths_text : BlockLengths → List ℕ
lengths_text b =
    named (ascii "headway ") b.headway
    ++ named (ascii " s, speed ") b.speed
    ++ ascii " km/h: two blocks one after the other may be as long as\n"
    ++ measured b.plain (ascii " m where there is no stopping place (table 7.1)\n")
    ++ measured b.stopping (ascii " m next to a stopping place and past it (table 7.2)\n")

-- the refusals: 28 the headway, 29 the speed
unfoldable pub refusal_text : ℕ → List ℕ
refusal_text number =
    when eqb number 28 then ascii "28: the headway is not one of 120 to 600 seconds\n"
    else ascii "29: the speed is none of 70, 90, 100, 130, 160 and 200 km/h\n"

-- by the answer
unfoldable pub answer_text : LengthsAnswer → List ℕ
answer_text a = when eqb a.number 0 then lengths_text a.lengths else refusal_text a.number

-- the most bytes of that
abbrev pub most_answer : ℕ
most_answer = 256

-- that in a buffer of so much room, and nothing where that may be too little
abbrev pub answer_in : ℕ → ℕ → ℕ → List ℕ
answer_in room headway speed = fitting room 0 most_answer (answer_text (answer headway speed))
