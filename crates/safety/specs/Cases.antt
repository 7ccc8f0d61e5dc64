-- The proved cases of section 8 as one list: runs on branch T, with what each must give.
use Rattle.std.specs.Prelude.{ℕ, Bool, true, false, List, [], ◌∷◌, ◌++◌, eqb, length, get_or, replicate, take}
use Rattle.laws.specs.Tests.{◌and◌}
use Rattle.track.specs.Codes.{neutral, a_to_b, open_block, stage0, stage1, idle, cancelling}
use Rattle.layout.specs.declared.Layout.{Layout}
use Rattle.interlocking.specs.declared.State.{State}
use Rattle.interlocking.specs.declared.Answer.{Answer}
use Rattle.interlocking.specs.State.{cold}
use Rattle.layout.specs.Load.{load}
use Rattle.panel.specs.Panel.{image, answer, drawn}
use Rattle.step_facts.specs.Run.{Event, event, box, answers, from_cold}

-- number and detail of each answer, one after the other
abbrev pub numbers : List Answer → List ℕ
numbers [] = []
numbers (a ∷ rest) = a.number ∷ a.detail ∷ numbers rest

-- the phase of route 0 after each
abbrev pub route0 : List Answer → List ℕ
route0 [] = []
route0 (a ∷ rest) = get_or a.next.phase 0 0 ∷ route0 rest

-- what a case looks at: the phase of route 0, the line's direction, its block's stage
abbrev pub look : State → List ℕ
look s = get_or s.phase 0 0 ∷ get_or s.direction 0 0 ∷ get_or s.stage 0 0 ∷ []

-- P1: the events of section 8; L3: with the report of the lamp of B's entrance signal before the ninth
abbrev pub p1 : List Event
p1 =
    event 4 0 0 ∷ event 1 0 1 ∷ event 1 1 1 ∷ event 1 2 1 ∷ event 1 3 1 ∷ event 2 0 1
    ∷ event 6 0 1 ∷ event 7 0 1 ∷ event 15 2 1 ∷ event 6 0 1 ∷ event 4 1 0 ∷ event 4 0 0 ∷ event 4 2 0
    ∷ []

-- P3: a train leaves A for the block
abbrev pub p3 : List Event
p3 = event 1 0 2 ∷ event 1 1 2 ∷ event 1 0 1 ∷ []

-- P4: it arrives at B
abbrev pub p4 : List Event
p4 = event 1 2 2 ∷ event 1 3 2 ∷ event 1 1 1 ∷ []

-- P5: the block's wire dies before it reads free
abbrev pub p5 : List Event
p5 = event 1 2 2 ∷ event 1 3 2 ∷ event 1 1 0 ∷ event 1 1 1 ∷ []

-- P2: the cold panel
abbrev pub cold_panel : List ℕ
cold_panel = 3 ∷ 3 ∷ 3 ∷ 3 ∷ 3 ∷ 20 ∷ 20 ∷ 20 ∷ 20 ∷ 0 ∷ 0 ∷ 0 ∷ 0 ∷ 1 ∷ 0 ∷ 0 ∷ []

-- P7: number and length of the answer to a request for the cold panel with this buffer, then what the buffer holds
abbrev pub outcome : Layout → List ℕ → List ℕ
outcome L buffer = let r = answer L cold (length buffer) in r.number ∷ r.length ∷ drawn L cold buffer

-- two lists are the same
abbrev pub same : List ℕ → List ℕ → Bool
same [] [] = true
same [] (y ∷ ys) = false
same (x ∷ xs) [] = false
same (x ∷ xs) (y ∷ ys) = eqb x y and same xs ys

-- each case computed on a layout file, against what section 8 says
abbrev pub cases : List ℕ → List Bool
cases bytes =
    let L = (load bytes).layout in
    let less = load (take 48 bytes) in
    -- P1: the answers
    same (numbers (answers (box L) cold p1))
    (8 ∷ 0 ∷ 0 ∷ 0 ∷ 0 ∷ 0 ∷ 0 ∷ 0 ∷ 0 ∷ 0 ∷ 0 ∷ 0 ∷ 10 ∷ 1 ∷ 0 ∷ 0 ∷ 0 ∷ 0 ∷ 0 ∷ 0 ∷ 0 ∷ 0 ∷ 0 ∷ 0 ∷ 5 ∷ 1 ∷ [])
    -- P2: the cold panel
    ∷ same (image L cold) cold_panel
    -- P3: route 0 is released, the line secured, the block held in stage 1
    ∷ same (look (from_cold L (p1 ++ p3))) (idle ∷ a_to_b ∷ stage1 ∷ [])
    -- P4: the block opens and the line is neutral
    ∷ same (look (from_cold L (p1 ++ (p3 ++ p4)))) (idle ∷ neutral ∷ open_block ∷ [])
    -- P5: held in stage 0, secured
    ∷ same (look (from_cold L (p1 ++ (p3 ++ p5)))) (idle ∷ a_to_b ∷ stage0 ∷ [])
    -- P6: cancelling after 89 seconds, idle after 90
    ∷ same (route0 (answers (box L) (from_cold L (p1 ++ (event 5 0 0 ∷ []))) (replicate 90 (event 10 0 0)))) (replicate 89 cancelling ++ (idle ∷ []))
    -- P7: a buffer of 15 bytes gets 27 and length 0 and stays as it was; one of 16 bytes gets the image
    ∷ same (outcome L (replicate 15 9)) (27 ∷ 0 ∷ replicate 15 9)
    ∷ same (outcome L (replicate 16 9)) (0 ∷ 16 ∷ cold_panel)
    -- P8: the file less its last byte gets 21 at 48
    ∷ same (less.number ∷ less.detail ∷ []) (21 ∷ 48 ∷ [])
    ∷ []
