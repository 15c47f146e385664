-- Every line of a deed ends with a brace and a newline.
use Rattle.std.proofs.Common.{◌≡◌, ℕ, ◌+◌, ◌-◌, List, ◌++◌, length, refl, ap, sym, ◌∙◌, arith, append_assoc}
use Rattle.std.specs.Prelude.{codes, take}
use Rattle.std.proofs.lemmas.List.{length-append}
use Rattle.std.proofs.Math.Seq.{take-append_seam}
use Rattle.mj_deeds.specs.declared.deed.Viewer.{Viewer}
use Rattle.mj_deeds.specs.declared.deed.Deed.{Deed}
use Rattle.mj_deeds.specs.declared.deed.Deed.TheVariants as deeds
use Rattle.mj_forms.specs.Lines.{line, start_game_line, start_hand_line, draw_line, discard_line, call_object, closed_kan_line, added_kan_line}
use Rattle.mj_forms.specs.Lines.{dora_line, reach_line, reach_accepted_line, win_line, drawn_hand_line, end_hand_line, end_game_line}

-- A text that ends so is what stands before, and then these two.
pub record Closes (text : List ℕ) : Type 0 where
  pub front : List ℕ
  pub is : text ≡ front ++ codes "}\n"

closed : (front : List ℕ) → Closes (front ++ codes "}\n")
closed front = record { front = front; is = refl }

-- an object closes with its brace, and its line with the newline after
closed_object : (front : List ℕ) → Closes (front ++ codes "}" ++ codes "\n")
closed_object front = record { front = front; is = append_assoc front (codes "}") (codes "\n") }

without : (front : List ℕ) → take (length (front ++ codes "}\n") - 2) (front ++ codes "}\n") ≡ front
without front = ap (λ n. take (n - 2) (front ++ codes "}\n")) (length-append front (codes "}\n")) ∙ ap (λ n. take n (front ++ codes "}\n")) (two (length front)) ∙ take-append_seam front (codes "}\n")
  where
    two : (n : ℕ) → n + 2 - 2 ≡ n
    two n = omega arith

pub line_closes : (viewer : Viewer) (d : Deed) → Closes (line viewer d)
unfolding start_game_line start_hand_line draw_line discard_line call_object closed_kan_line added_kan_line dora_line reach_line reach_accepted_line
    win_line drawn_hand_line end_hand_line end_game_line
line_closes viewer (deeds.StartGame names) = search closed
line_closes viewer (deeds.StartHand round number honba deposits dealer indicator hands) = search closed
line_closes viewer (deeds.Draw seat tile replacement) = search closed
line_closes viewer (deeds.Discard seat tile drawn) = search closed
line_closes viewer (deeds.Chi seat target tile a b) = search closed_object
line_closes viewer (deeds.Pon seat target tile a b) = search closed_object
line_closes viewer (deeds.OpenKan seat target tile a b c) = search closed_object
line_closes viewer (deeds.ClosedKan seat a b c d) = search closed
line_closes viewer (deeds.AddedKan seat tile a b c) = search closed
line_closes viewer (deeds.Dora tile) = search closed
line_closes viewer (deeds.Reach seat) = search closed
line_closes viewer (deeds.ReachAccepted seat points bid) = search closed
line_closes viewer (deeds.Win seat target tile unders hand yaku fu han value deltas points rest) = search closed
line_closes viewer (deeds.DrawnHand reason hands ready deltas points) = search closed
line_closes viewer deeds.EndHand = closed (codes "{\"type\":\"end_kyoku\"")
line_closes viewer (deeds.EndGame points deposits) = search closed

-- So a line is what stands before its last two, and then these.
pub lines_close : (viewer : Viewer) (d : Deed) → line viewer d ≡ take (length (line viewer d) - 2) (line viewer d) ++ codes "}\n"
lines_close viewer d = of_front (line viewer d) (line_closes viewer d)
  where
    of_front : (text : List ℕ) → Closes text → text ≡ take (length text - 2) text ++ codes "}\n"
    of_front text c = c.is ∙ sym (ap (λ t. t ++ codes "}\n") (ap (λ t. take (length t - 2) t) c.is ∙ without c.front))
