-- A ROM of 16 words of 4 bits, as a chain of writes over a bare state `base`: each index but 7 is
-- written with itself, and word 7 is that of `base`. Its definitions are computed.
use Rattle.std.specs.Prelude.{ℕ, List, [], ◌∷◌, ◌++◌, codes, map, Option, Some, Result, Ok, Err}
use Rattle.knox_words.specs.Bits.{Bits, bits}
use Rattle.circuit_table.specs.declared.fault.BtorFault.{BtorFault}
use Rattle.circuit_table.specs.declared.line.Line.{Line}
use Rattle.btor_read.specs.Reading.{lines_or_fault}

-- its text
abbrev pub rom_text : List ℕ
rom_text =
    codes "1 sort bitvec 4\n2 sort array 1 1\n3 input 1 a\n4 state 2 base\n"
    ++ (codes "5 constd 1 0\n6 write 2 4 5 5\n7 constd 1 1\n8 write 2 6 7 7\n"
    ++ (codes "9 constd 1 2\n10 write 2 8 9 9\n11 constd 1 3\n12 write 2 10 11 11\n"
    ++ (codes "13 constd 1 4\n14 write 2 12 13 13\n15 constd 1 5\n16 write 2 14 15 15\n"
    ++ (codes "17 constd 1 6\n18 write 2 16 17 17\n21 constd 1 8\n22 write 2 18 21 21\n"
    ++ (codes "23 constd 1 9\n24 write 2 22 23 23\n25 constd 1 10\n26 write 2 24 25 25\n"
    ++ (codes "27 constd 1 11\n28 write 2 26 27 27\n29 constd 1 12\n30 write 2 28 29 29\n"
    ++ (codes "31 constd 1 13\n32 write 2 30 31 31\n33 constd 1 14\n34 write 2 32 33 33\n"
    ++ (codes "35 constd 1 15\n36 write 2 34 35 35\n37 state 2 rom\n38 init 2 37 36\n"
    ++ (codes "39 next 2 37 37\n40 read 1 37 3\n41 output 40 q\n")))))))))

abbrev pub lines_or_none : Result (List Line) BtorFault → List Line
lines_or_none (Ok ls) = ls
lines_or_none (Err f) = []

-- its lines
abbrev pub rom : List Line
rom = lines_or_none (lines_or_fault rom_text)

-- words of width 4
abbrev pub words : List ℕ → List Bits
words = map (λ n. bits 4 n)

-- the noise of `base`: the index counted from 15 down
abbrev pub first_noise : List Bits
first_noise = words (15 ∷ 14 ∷ 13 ∷ 12 ∷ 11 ∷ 10 ∷ 9 ∷ 8 ∷ 7 ∷ 6 ∷ 5 ∷ 4 ∷ 3 ∷ 2 ∷ 1 ∷ 0 ∷ [])

abbrev pub second_noise : List Bits
second_noise = words (3 ∷ 4 ∷ 5 ∷ 6 ∷ 7 ∷ 8 ∷ 9 ∷ 10 ∷ 11 ∷ 12 ∷ 13 ∷ 14 ∷ 15 ∷ 0 ∷ 1 ∷ 2 ∷ [])

-- the words of the ROM where word 7 is a number
abbrev pub with_gap : ℕ → List Bits
with_gap n = words (0 ∷ 1 ∷ 2 ∷ 3 ∷ 4 ∷ 5 ∷ 6 ∷ n ∷ 8 ∷ 9 ∷ 10 ∷ 11 ∷ 12 ∷ 13 ∷ 14 ∷ 15 ∷ [])

abbrev pub known : List ℕ → List (Option Bits)
known = map (λ n. Some (bits 4 n))
