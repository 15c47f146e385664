-- What is kept of a seat's riichi and of its first turn, a deed further.
use Rattle.std.proofs.Common.{◌≡◌, ℕ, ◌||◌, ◌&&◌, not, Bool, true, false, List, [], ◌∷◌, ◌++◌, cond, refl, sym, ap, ◌∙◌}
use Rattle.std.specs.List.{list_any}
use Rattle.std.proofs.lemmas.List.Recursion.{or_push}
use Rattle.mj_deeds.specs.declared.deed.Deed.{Deed}
use Rattle.mj_deeds.specs.Course.{before_wins}
use Rattle.mj_deeds.specs.Facts.{is_discard_by}
use Rattle.mj_deeds.specs.Firsts.{is_first, ends_first}
use Rattle.mj_deeds.specs.Hand.{is_hand_start}
use Rattle.mj_deeds.specs.Points.{is_win}
use Rattle.mj_deeds.specs.Riichi.{is_reach_by, is_accepted_by, has_reached, is_in_riichi, behind_first, is_ippatsu}
use Rattle.mj_deeds.proofs.RiichiLaws.{is_added, is_broken, reached_more, accepted_more, behind_first-more, double_more, broken_more, ippatsu_more}
use Rattle.mj_facts.proofs.WinSteps.{behind_win, ippatsu_without}
use Rattle.mj_facts.specs.declared.mark_facts.MarkFacts.{MarkFacts}
use Rattle.mj_facts.specs.declared.marks.Marks.{Marks}
use Rattle.mj_facts.specs.Marks.{marks}
use Rattle.mj_facts.specs.Seats.{KeepsMarks}

any_more : (p : Deed → Bool) (xs : List Deed) (d : Deed) → list_any p (xs ++ d ∷ []) ≡ (list_any p xs || p d)
any_more p xs d = or_push (list_any p) p refl (λ x xs. refl) xs d

-- A seat has discarded after its reach, with one deed more.
declared_more : (ds : List Deed) (d : Deed) (seat : ℕ) →
    list_any (is_discard_by seat) (behind_first (is_reach_by seat) (ds ++ d ∷ []))
    ≡ (has_reached ds seat && (list_any (is_discard_by seat) (behind_first (is_reach_by seat) ds) || is_discard_by seat d))
declared_more ds d seat =
    ap (list_any (is_discard_by seat)) (behind_first-more (is_reach_by seat) ds d)
    ∙ by_test (has_reached ds seat) (behind_first (is_reach_by seat) ds)
  where
    by_test : (b : Bool) (xs : List Deed) → list_any (is_discard_by seat) (cond b (xs ++ d ∷ []) []) ≡ (b && (list_any (is_discard_by seat) xs || is_discard_by seat d))
    by_test true xs = any_more (is_discard_by seat) xs d
    by_test false xs = refl

-- The one turn of a riichi when the tile was given that is won on, with one deed more.
given_more : (ds : List Deed) (d : Deed) (seat : ℕ) (before now result : Bool) → before ≡ is_ippatsu (before_wins ds) seat → now ≡ is_ippatsu (ds ++ d ∷ []) seat →
    result ≡ cond (is_win d) before now → result ≡ is_ippatsu (before_wins (ds ++ d ∷ [])) seat
given_more ds d seat before now result was is what = by_test (is_win d) refl what
  where
    by_test : (b : Bool) → is_win d ≡ b → result ≡ cond b before now → result ≡ is_ippatsu (before_wins (ds ++ d ∷ [])) seat
    by_test true h e = e ∙ was ∙ ap (λ (xs : List Deed). is_ippatsu xs seat) (sym (behind_win (ds ++ d ∷ []) ds d refl h))
    by_test false h e = e ∙ is ∙ ippatsu_without (ds ++ d ∷ []) ds d seat refl h

-- All that is kept of it, with one deed more.
pub marks_more : (ds : List Deed) (d : Deed) (seat : ℕ) (m n : MarkFacts) → KeepsMarks ds seat m →
    n.begun ≡ (m.begun || is_hand_start d) → n.ended ≡ (m.ended || ends_first seat d) → n.reached ≡ (m.reached || is_reach_by seat d) →
    n.accepted ≡ (m.accepted || is_accepted_by seat d) → n.double ≡ cond m.reached m.double (is_reach_by seat d && (m.begun && not m.ended)) →
    n.declared ≡ (m.reached && (m.declared || is_discard_by seat d)) → n.broken ≡ (m.declared && (m.broken || ends_first seat d)) →
    n.ippatsu ≡ (n.accepted && not (cond (is_added d) m.broken n.broken)) → n.given ≡ cond (is_win d) m.given n.ippatsu → KeepsMarks (ds ++ d ∷ []) seat n
marks_more ds d seat m n k begun ended reached accepted double declared broken ippatsu given = record {
  begun = begun ∙ ap (λ b. b || is_hand_start d) k.begun ∙ sym (any_more is_hand_start ds d);
  ended = ended ∙ (λ i. k.ended i || ends_first seat d) ∙ sym (any_more (ends_first seat) ds d);
  reached = reached ∙ (λ i. k.reached i || is_reach_by seat d) ∙ sym (reached_more ds d seat);
  accepted = is_accepted ∙ sym (accepted_more ds d seat);
  double = double ∙ (λ i. cond (k.reached i) (k.double i) (is_reach_by seat d && (k.begun i && not (k.ended i)))) ∙ sym (double_more ds d seat);
  declared = declared ∙ (λ i. k.reached i && (k.declared i || is_discard_by seat d)) ∙ sym (declared_more ds d seat);
  broken = is_broken_now;
  ippatsu = is_within;
  given = given_more ds d seat m.given n.ippatsu n.given k.given is_within given;
}
  where
    is_accepted : n.accepted ≡ (is_in_riichi ds seat || is_accepted_by seat d)
    is_accepted = accepted ∙ (λ i. k.accepted i || is_accepted_by seat d)

    is_broken_now : n.broken ≡ is_broken (ds ++ d ∷ []) seat
    is_broken_now = broken ∙ (λ i. k.declared i && (k.broken i || ends_first seat d)) ∙ sym (broken_more ds d seat)

    is_within : n.ippatsu ≡ is_ippatsu (ds ++ d ∷ []) seat
    is_within = ippatsu ∙ (λ i. is_accepted i && not (cond (is_added d) (k.broken i) (is_broken_now i))) ∙ sym (ippatsu_more ds d seat)

-- Before any deed none of it is so.
pub no_marks : (seat : ℕ) →
    KeepsMarks [] seat (record { begun = false; ended = false; reached = false; accepted = false; double = false; declared = false; broken = false; ippatsu = false; given = false })
no_marks seat = record {
  begun = refl;
  ended = refl;
  reached = refl;
  accepted = refl;
  double = refl;
  declared = refl;
  broken = refl;
  ippatsu = refl;
  given = refl;
}

-- The marks that are told of it.
pub marks_told : (ds : List Deed) (seat : ℕ) (m : MarkFacts) (first : Bool) → KeepsMarks ds seat m → first ≡ (m.begun && not m.ended) →
    ◌≡◌ {A = Marks} (record { reached = m.reached; accepted = m.accepted; double = m.double; ippatsu = m.ippatsu; first = first }) (marks ds seat)
marks_told ds seat m first k e = λ i. record { reached = k.reached i; accepted = k.accepted i; double = k.double i; ippatsu = k.ippatsu i; first = is i }
  where
    is : first ≡ is_first ds seat
    is = e ∙ (λ i. k.begun i && not (k.ended i))
