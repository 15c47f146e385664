-- A watcher is told no more than it may learn.
use Rattle.std.proofs.Common.{◌≡◌, ℕ, Bool, true, false, cond, List, [], ◌∷◌, ◌++◌, refl, ap, sym, ◌∙◌}
use Rattle.mj_deeds.specs.declared.deed.Deed.{Deed}
use Rattle.mj_deeds.specs.declared.token.Token.{Token}
use Rattle.mj_deeds.specs.Hand.{hand}
use Rattle.mj_wall.specs.declared.setting.Rules.{Rules}
use Rattle.mj_rules.specs.Played.{AllPlayed}
use Rattle.mj_rules.specs.Outcome.{wall_of}
use Rattle.mj_rules.proofs.Playing.{each_is_wall}
use Rattle.mj_rules.proofs.Dealing.{hand_has_thirteen}
use Rattle.mj_secrecy.proofs.Rebuilt.{DealsThirteen}
use Rattle.mj_observe.specs.Views.{public_line, in_full, is_hand_end, view_from}
use Rattle.mj_observe.specs.Traces.{public_token, Secrets, secrets, Item, Saw, Ended, trace_from, ArePlayed}
use Rattle.mj_observe.specs.Laws.{WatchersLearnNoMore}
use Rattle.mj_observe.proofs.Bare.{bare, all_bare, bare_more, hand-bare, line-bare, end-bare, public_rebuilt, bare_is_rebuilt}
use Rattle.mj_observe.proofs.Secrets.{same_deeds}

-- hands that everybody sees alike and whose secrets are the same are the same
same_hands : (ds es : List Deed) → all_bare ds ≡ all_bare es → secrets (hand ds) ≡ secrets (hand es) → hand ds ≡ hand es
same_hands ds es alike s = same_deeds (hand ds) (hand es) (hand-bare ds ∙ ap hand alike ∙ sym (hand-bare es)) s

-- what is learnt of an end of a hand
ended_alike : (a b : Bool) (s t : Secrets) (one other : List Item) (x y : List ℕ) → a ≡ b → (s ≡ t → x ≡ y) → cond a (Ended s ∷ []) [] ++ one ≡ cond b (Ended t ∷ []) [] ++ other →
    (cond a x [] ≡ cond b y []) × (one ≡ other)
ended_alike true true s t one other x y e shown h =
    let same : s ≡ t = cc in
    let later : one ≡ other = cc in
    (shown same, later)
ended_alike false false s t one other x y e shown h = (refl, h)
ended_alike true false s t one other x y e shown h = cc
ended_alike false true s t one other x y e shown h = cc

saw_alike : (t u : Token) (one other : List Item) → Saw t ∷ one ≡ Saw u ∷ other → (t ≡ u) × (one ≡ other)
saw_alike t u one other h =
    let first : t ≡ u = cc in
    let later : one ≡ other = cc in
    (first, later)

-- played deeds of which as much is learnt are told alike, from a point on before which everybody sees them alike
told_alike : (rules others : Rules) (walls more : List (List ℕ)) (bs cs ds es : List Deed) → DealsThirteen walls → DealsThirteen more → AllPlayed rules walls bs ds → AllPlayed others more cs es →
    all_bare bs ≡ all_bare cs → trace_from bs ds ≡ trace_from cs es → view_from bs ds ≡ view_from cs es
told_alike rules others walls more bs cs [] [] t u p q b h = refl
told_alike rules others walls more bs cs [] (e ∷ es) t u p q b h = cc
told_alike rules others walls more bs cs (d ∷ ds) [] t u p q b h = cc
told_alike rules others walls more bs cs (d ∷ ds) (e ∷ es) t u p q b h =
    let saw = saw_alike (public_token d) (public_token e) _ _ h in
    let one : bare d ≡ bare e = bare_is_rebuilt rules walls bs d t p.0 ∙ (λ i. public_rebuilt (b i) (saw.0 i)) ∙ sym (bare_is_rebuilt others more cs e u q.0) in
    let now : all_bare (bs ++ d ∷ []) ≡ all_bare (cs ++ e ∷ []) = bare_more bs d ∙ (λ i. b i ++ one i ∷ []) ∙ sym (bare_more cs e) in
    let line : public_line d ≡ public_line e = line-bare d ∙ ap public_line one ∙ sym (line-bare e) in
    let end : is_hand_end d ≡ is_hand_end e = end-bare d ∙ ap is_hand_end one ∙ sym (end-bare e) in
    let full = ended_alike (is_hand_end d) (is_hand_end e) (secrets (hand (bs ++ d ∷ []))) (secrets (hand (cs ++ e ∷ []))) (trace_from (bs ++ d ∷ []) ds) (trace_from (cs ++ e ∷ []) es)
    (in_full (hand (bs ++ d ∷ []))) (in_full (hand (cs ++ e ∷ []))) end (λ s. ap in_full (same_hands (bs ++ d ∷ []) (cs ++ e ∷ []) now s)) saw.1 in
    let later : view_from (bs ++ d ∷ []) ds ≡ view_from (cs ++ e ∷ []) es = told_alike rules others walls more (bs ++ d ∷ []) (cs ++ e ∷ []) ds es t u p.1 q.1 now full.1 in
    λ i. (line i ++ full.0 i) ++ later i

deals : (ds : List Deed) (p : ArePlayed ds) → DealsThirteen p.walls
unfolding DealsThirteen
deals ds p = λ number dealer seat. hand_has_thirteen p.rules.red (wall_of p.walls number) dealer seat (each_is_wall p.rules.red p.walls p.some p.whole number)

pub learn_no_more : WatchersLearnNoMore
learn_no_more ds es p q h = told_alike p.rules q.rules p.walls q.walls [] [] ds es (deals ds p) (deals es q) p.played q.played refl h
