-- Each step on the table keeps its rule.
use Rattle.std.proofs.Common.{◌≡◌, ℕ, ◌+◌, ◌%◌, ◌^◌, ◌<◌, ◌≤◌, ◌≢◌, Bool, true, false, List, [], ◌∷◌, ◌++◌, length, set, slice_index, slice_set}
use Rattle.std.proofs.Common.{nat_lt, ◌==◌, MatchBool, All, Option, Some, refl, ap, sym, ◌∙◌, subst, subst₂, arith, length-append}
use Rattle.std.proofs.lemmas.Bool.Decides.{nat_tests}
use Rattle.std.proofs.Math.Nat.{mod-add-mod}
use mathlib.Core.Option.{some, some-injective, some-ne-none}
use mathlib.Core.Logic.{dite}
use mathlib.Core.Bool.{true≢false}
use mathlib.Core.List.{IsPrefix}
use native.Mathlib.Decide.{ℕ_discrete}
use lib.ListN.{get_elem?}
use Rattle.atomic_table.specs.Table.{State, Me, Act, keeps, takes, gives, Valid, stepped, carried_after, Allows, Splits, Joins, opening as opened, Final, Seen}
use Rattle.atomic_table.proofs.Lists.{set_here, set_else, set_again, one_turn}
use Rattle.turn_lock.specs.declared.view.Stage.TheVariants.{Idle, Waits, Serves}
use Rattle.turn_lock.specs.declared.view.Own.{Own}
use Rattle.turn_lock.specs.declared.view.View.{View}
use Rattle.turn_lock.specs.Notes.{notes_of, Follows}
use Rattle.turn_lock.specs.Inner.Views.{view, own_of, fresh, others, first_own, one_if, times_of, out, HasTicket, is_serving}
use Rattle.turn_lock.specs.Inner.Rule.{total, IsFree, At, Knows, Holds}
use Rattle.turn_lock.specs.Inner.Plays.{Drew, Granted, Looked, Told, Served}
use Rattle.turn_lock.proofs.Sums.{total_set, total_snoc, total_le, one_below, two_below, total_alone, each_set, each_snoc, one_there, prefix_self}
use Rattle.turn_lock.proofs.Views.{apart_set, apart_snoc, frees, frees_snoc, at_later, not_next, at_served, not_serving, none_serves, out_own}
use Rattle.turn_lock.proofs.Known.{own_times, below_one, below_count, below_follows, knows_follows, knows_append, knows_others, knows_first}
use Rattle.turn_lock.proofs.Known.{knows_fresh, times_append, times_cut, length_cut, no_times, length_fresh, times_fresh}

module _ {T S N : Type 0} (setting : T → S) (notes : T → List N) (author : N → ℕ) (fixed : S) (count : ℕ) where
  abbrev H : State (Option T) (View S N) → Type 0
  H s = Holds setting notes author fixed count s

  -- a ticket is drawn
  pub draws : (slots id : ℕ) (own : List (Own S N)) → 0 < length own
      → Allows H slots id (view Idle own, []) 1 (λ n. (n + 1) % 2 ^ 64) (λ n w. Drew (view Idle own, []) n w)
  draws slots id own some_own s r wide at small =
      let v : View S N = view Idle own in
      let w : View S N = view (Waits r.next) own in
      let sum : total (λ u. out u.stage) (set s.views id w) + 0 ≡ total (λ u. out u.stage) s.views + 1 = total_set (λ (u : View S N). out u.stage) s.views id v w at in
      let Q : View S N → Type 0 = λ u. Knows author fixed r.log u.own × At r.log r.serving (r.next + 1) u.own u.stage in (
        w,
        keeps,
        tt,
        record {
          log = r.log;
          serving = r.serving;
          next = r.next + 1;
          changed = r.changed;
          words = ap (λ (ws : List ℕ). slice_set ws 1 ((slice_index ws 1 + 1) % 2 ^ 64)) r.words ∙ ap (λ (k : ℕ). r.serving % 2 ^ 64 ∷ k ∷ r.changed ∷ []) (mod-add-mod r.next (2 ^ 64) 1);
          few = r.few;
          counted = let c = r.counted in omega (arith, sum, c);
          numbers = let e = total_set (λ (u : View S N). length u.own) s.views id v w at in omega (arith, e, r.numbers);
          once = λ k. let e = total_set (λ (u : View S N). times_of k u.own) s.views id v w at in omega (arith, e, r.once k);
          apart = apart_set s.views id w r.apart (λ j t u ne e h g. not_next r.log r.serving r.next u.own u.stage (r.knows j u e).1 (subst (λ (k : ℕ). HasTicket k u.stage) (sym g) h));
          knows = each_set Q s.views id w (λ j u ne e. ((r.knows j u e).0, at_later r.log r.serving r.next u.own u.stage (r.knows j u e).1))
              ((r.knows id v at).0, (some_own, omega (arith, r.counted), omega arith));
          below = r.below;
          home = λ free. r.home (frees s.views id v w at refl free);
        },
        (r.next, refl, ap (λ (ws : List ℕ). slice_index ws 1) r.words),
      )

  -- one who waits for the number served is the only one who has that ticket, so nobody has the turn, and the value is home
  free_for : (s : State (Option T) (View S N)) (r : H s) (id : ℕ) (own : List (Own S N)) → get_elem? s.views id ≡ some (view (Waits r.serving) own) → IsFree s.views
  free_for s r id own at j u e = dite (ℕ_discrete j id)
      (λ (same : j ≡ id). subst (λ (z : View S N). is_serving z.stage ≡ false) (some-injective (view (Waits r.serving) own) u (sym at ∙ subst (λ (k : ℕ). get_elem? s.views k ≡ some u) same e)) refl)
      (λ (ne : j ≢ id). not_serving r.log r.serving r.next u.own u.stage (λ h. ne (r.apart j id r.serving u (view (Waits r.serving) own) e at h refl)) (r.knows j u e).1)

  -- the number served is the own ticket: the turn has come
  grants : (slots id t : ℕ) (o : Own S N) (s : State (Option T) (View S N)) (r : H s) → get_elem? s.views id ≡ some (view (Waits t) (o ∷ [])) → t ≡ r.serving
      → (w : View S N) × (a : Act (Option T)) × Valid s.homes [] a × H (stepped s 0 (slice_index s.words 0) id [] w a) × Granted setting notes author t o (w, carried_after [] a)
  grants slots id t o s r at is =
      let v : View S N = view (Waits t) (o ∷ []) in
      let free : IsFree s.views = free_for s r id (o ∷ []) (subst (λ (k : ℕ). get_elem? s.views id ≡ some (view (Waits k) (o ∷ []))) is at) in
      let home = r.home free in
      let x : T = home.0 in
      let w : View S N = view (Serves t) (own_of o.number o.setting (notes x) ∷ []) in
      let known = r.knows id v at in
      let log_is : notes x ≡ r.log = home.3 in
      let Q : View S N → Type 0 = λ u. Knows author fixed r.log u.own × At r.log r.serving r.next u.own u.stage in
      let mine : notes_of author o.number (notes x) ≡ notes_of author o.number o.seen = ap (notes_of author o.number) log_is ∙ sym known.0.2 in (
        w,
        takes 0 (Some x),
        home.1,
        record {
          log = r.log;
          serving = r.serving;
          next = r.next;
          changed = r.changed;
          words = ap (λ (ws : List ℕ). slice_set ws 0 (slice_index ws 0)) r.words;
          few = r.few;
          counted = let e = total_set (λ (u : View S N). out u.stage) s.views id v w at in omega (arith, e, r.counted);
          numbers = let e = total_set (λ (u : View S N). length u.own) s.views id v w at in omega (arith, e, r.numbers);
          once = λ k. let e = total_set (λ (u : View S N). times_of k u.own) s.views id v w at in omega (arith, e, r.once k);
          apart = apart_set s.views id w r.apart (λ j k u ne e h g. ne (r.apart j id k u v e at h g));
          knows = each_set Q s.views id w (λ j u ne e. r.knows j u e)
              ((known.0.0, subst (λ (l : List N). IsPrefix l r.log) (sym log_is) (prefix_self r.log), ap (notes_of author o.number) log_is, tt), (is, known.1.2, log_is));
          below = r.below;
          home = λ all. absurd (true≢false (all id w (set_here s.views id w (one_there s.views id v at))));
        },
        (x, refl, record { setting_is = home.2 ∙ sym known.0.0; begins = subst (IsPrefix o.seen) (sym log_is) known.0.1; mine = mine }),
      )

  -- no more tickets are out than there are numbers, so two tickets with one remainder are one
  serves_own : (s : State (Option T) (View S N)) (r : H s) (id t : ℕ) (own : List (Own S N)) → get_elem? s.views id ≡ some (view (Waits t) own) → slice_index s.words 0 ≡ t % 2 ^ 64 → t ≡ r.serving
  serves_own s r id t own at found =
      let a = (r.knows id (view (Waits t) own) at).1 in
      let few : total (λ u. out u.stage) s.views ≤ total (λ u. length u.own) s.views =
      total_le (λ (u : View S N). out u.stage) (λ (u : View S N). length u.own) s.views (λ j u e. out_own r.log r.serving r.next u.own u.stage (r.knows j u e).1) in
      let word : r.serving % 2 ^ 64 ≡ t % 2 ^ 64 = sym (ap (λ (ws : List ℕ). slice_index ws 0) r.words) ∙ found in
      sym (one_turn r.serving t (2 ^ 64) a.1 (omega (arith, a.2, r.counted, r.numbers, r.few, few)) word)

  same_state : (s : State (Option T) (View S N)) (r : H s) (id : ℕ) (v : View S N) → get_elem? s.views id ≡ some v → H (stepped s 0 (slice_index s.words 0) id [] v keeps)
  same_state s r id v at =
      let words : slice_set s.words 0 (slice_index s.words 0) ≡ s.words = ap (λ (ws : List ℕ). slice_set ws 0 (slice_index ws 0)) r.words ∙ sym r.words in
      let views : set s.views id v ≡ s.views = set_again s.views id v at in
      subst (λ (p : List ℕ × List (View S N)). H (record { words = p.0; homes = s.homes; views = p.1 })) (λ i. (sym words i, sym views i)) r

  -- a look at the number served
  pub looks : (slots id t : ℕ) (o : Own S N) → Allows H slots id (view (Waits t) (o ∷ []), []) 0 (λ n. n) (λ n w. Looked setting notes author (view (Waits t) (o ∷ []), []) n w)
  looks slots id t o s r wide at small =
      let n : ℕ = slice_index s.words 0 in
      let v : View S N = view (Waits t) (o ∷ []) in
      let m : Me (Option T) (View S N) = (v, []) in
      dite (ℕ_discrete n (t % 2 ^ 64))
      (λ (hit : n ≡ t % 2 ^ 64).
      let g = grants slots id t o s r at (serves_own s r id t (o ∷ []) at hit) in
      let yes : (n == t % 2 ^ 64) ≡ true = grind (arith, nat_tests) in
      let w : Me (Option T) (View S N) = (g.0, carried_after [] g.1) in
      (g.0, g.1, g.2, g.3, subst (λ (b : Bool). MatchBool b (Granted setting notes author t o w) (w ≡ m)) (sym yes) g.4))
      (λ (miss : n ≢ t % 2 ^ 64).
      let no : (n == t % 2 ^ 64) ≡ false = grind (arith, nat_tests) in
      (v, keeps, tt, same_state s r id v at, subst (λ (b : Bool). MatchBool b (Granted setting notes author t o m) (m ≡ m)) (sym no) refl))

  -- a change is told
  pub tells : (slots id new : ℕ) (me : Me (Option T) (View S N)) → Allows H slots id me 2 (λ _. new) (λ _ w. Told me w)
  tells slots id new me s r wide at small =
      let views : set s.views id me.0 ≡ s.views = set_again s.views id me.0 at in
      let kept : H (record { words = slice_set s.words 2 new; homes = s.homes; views = s.views }) = record {
        log = r.log;
        serving = r.serving;
        next = r.next;
        changed = new;
        words = ap (λ (ws : List ℕ). slice_set ws 2 new) r.words;
        few = r.few;
        counted = r.counted;
        numbers = r.numbers;
        once = r.once;
        apart = r.apart;
        knows = r.knows;
        below = r.below;
        home = r.home;
      } in
      (me.0, keeps, tt, subst (λ (vs : List (View S N)). H (record { words = slice_set s.words 2 new; homes = s.homes; views = vs })) (sym views) kept, refl)

  -- the value comes home with the notes of its holder, and the next ticket is served
  pub serves : (slots id t new : ℕ) (o : Own S N) (x : T) → 0 < slots → new ≡ (t + 1) % 2 ^ 64 → setting x ≡ o.setting → Follows author o.number o.seen (notes x)
      → Allows H slots id (view (Serves t) (o ∷ []), (0, Some x) ∷ []) 0 (λ _. new) (λ _ w. Served notes (view (Serves t) (o ∷ []), (0, Some x) ∷ []) w)
  serves slots id t new o x room new_is same follows s r wide at small =
      let v : View S N = view (Serves t) (o ∷ []) in
      let w : View S N = view Idle (own_of o.number o.setting (notes x) ∷ []) in
      let known = r.knows id v at in
      let served : t ≡ r.serving = known.1.0 in
      let saw : o.seen ≡ r.log = known.1.2 in
      let publishes : Follows author o.number r.log (notes x) = subst (λ (l : List N). Follows author o.number l (notes x)) saw follows in
      let self : one_if (o.number == o.number) ≡ 1 = own_times o.number in
      let one : one_if (nat_lt o.number count) ≤ 1 = below_one (nat_lt o.number count) in
      let mine : times_of o.number (o ∷ []) ≤ total (λ u. times_of o.number u.own) s.views = one_below (λ (u : View S N). times_of o.number u.own) s.views id v at in
      let small_number : o.number < count = below_count o.number count (omega (arith, self, mine, r.once o.number)) in
      let sum : total (λ u. out u.stage) (set s.views id w) + 1 ≡ total (λ u. out u.stage) s.views + 0 = total_set (λ (u : View S N). out u.stage) s.views id v w at in
      let Q : View S N → Type 0 = λ u. Knows author fixed (notes x) u.own × At (notes x) (r.serving + 1) r.next u.own u.stage in (
        w,
        gives,
        tt,
        record {
          log = notes x;
          serving = r.serving + 1;
          next = r.next;
          changed = r.changed;
          words = ap (λ (ws : List ℕ). slice_set ws 0 new) r.words ∙ ap (λ (k : ℕ). k ∷ r.next % 2 ^ 64 ∷ r.changed ∷ []) (new_is ∙ ap (λ (k : ℕ). (k + 1) % 2 ^ 64) served);
          few = r.few;
          counted = omega (arith, sum, r.counted);
          numbers = let e = total_set (λ (u : View S N). length u.own) s.views id v w at in omega (arith, e, r.numbers);
          once = λ k. let e = total_set (λ (u : View S N). times_of k u.own) s.views id v w at in omega (arith, e, r.once k);
          apart = apart_set s.views id w r.apart (λ j k u ne e h g. absurd g);
          knows = each_set Q s.views id w
              (λ j u ne e.
              let two = two_below (λ (z : View S N). times_of o.number z.own) s.views id j v u (λ z. ne (sym z)) at e in
              let none : times_of o.number u.own ≡ 0 = omega (arith, two, self, one, r.once o.number) in (
                knows_follows author fixed o.number r.log (notes x) u.own none publishes (r.knows j u e).0,
                at_served r.log r.serving r.next u.own (notes x) u.stage (λ h. ne (r.apart j id r.serving u v e at h served)) (r.knows j u e).1,
              ))
              ((known.0.0, prefix_self (notes x), refl, tt), tt);
          below = below_follows author count o.number r.log (notes x) small_number publishes r.below;
          home = λ free. (x, set_here s.homes 0 (some (Some x)) (subst (λ (k : ℕ). 0 < k) (sym wide) room), same ∙ known.0.0, refl);
        },
        refl,
      )

  -- the first number goes to a new seat
  pub splits : (id : ℕ) (own : List (Own S N)) → Splits H id (view Idle own) (view Idle (others own)) (view Idle (first_own own))
  splits id own s r at =
      let v : View S N = view Idle own in
      let w : View S N = view Idle (others own) in
      let u : View S N = view Idle (first_own own) in
      let vs : List (View S N) = set s.views id w in
      let known = r.knows id v at in
      let Q : View S N → Type 0 = λ z. Knows author fixed r.log z.own × At r.log r.serving r.next z.own z.stage in
      record {
        log = r.log;
        serving = r.serving;
        next = r.next;
        changed = r.changed;
        words = r.words;
        few = r.few;
        counted = let a = total_snoc (λ (z : View S N). out z.stage) vs u in let b = total_set (λ (z : View S N). out z.stage) s.views id v w at in omega (arith, a, b, r.counted);
        numbers = let a = total_snoc (λ (z : View S N). length z.own) vs u in let b = total_set (λ (z : View S N). length z.own) s.views id v w at in omega (arith, a, b, length_cut own, r.numbers);
        once = λ k. let a = total_snoc (λ (z : View S N). times_of k z.own) vs u in let b = total_set (λ (z : View S N). times_of k z.own) s.views id v w at in
            omega (arith, a, b, times_cut k own, r.once k);
        apart = apart_snoc vs (first_own own) (apart_set s.views id w r.apart (λ j k z ne e h g. g));
        knows = each_snoc Q vs u (each_set Q s.views id w (λ j z ne e. r.knows j z e) (knows_others author fixed r.log own known.0, tt)) (knows_first author fixed r.log own known.0, tt);
        below = r.below;
        home = λ free. r.home (frees s.views id v w at refl (frees_snoc vs u free));
      }

  -- one seat gets the numbers of both
  pub joins : (id other : ℕ) (a b : List (Own S N)) → Joins H id (view Idle a) other (view Idle b) (view Idle (a ++ b)) (view Idle [])
  joins id other a b s r at apart at_other =
      let v : View S N = view Idle a in
      let w : View S N = view Idle (a ++ b) in
      let u : View S N = view Idle b in
      let z : View S N = view Idle [] in
      let vs : List (View S N) = set s.views id w in
      let before : get_elem? s.views other ≡ some u = sym (set_else s.views id other w apart) ∙ at_other in
      let Q : View S N → Type 0 = λ y. Knows author fixed r.log y.own × At r.log r.serving r.next y.own y.stage in
      record {
        log = r.log;
        serving = r.serving;
        next = r.next;
        changed = r.changed;
        words = r.words;
        few = r.few;
        counted = let e = total_set (λ (y : View S N). out y.stage) vs other u z at_other in let f = total_set (λ (y : View S N). out y.stage) s.views id v w at in omega (arith, e, f, r.counted);
        numbers = let e = total_set (λ (y : View S N). length y.own) vs other u z at_other in let f = total_set (λ (y : View S N). length y.own) s.views id v w at in
            omega (arith, e, f, length-append a b, r.numbers);
        once = λ k. let e = total_set (λ (y : View S N). times_of k y.own) vs other u z at_other in let f = total_set (λ (y : View S N). times_of k y.own) s.views id v w at in
            omega (arith, e, f, times_append k a b, r.once k);
        apart = apart_set vs other z (apart_set s.views id w r.apart (λ j k y ne e h g. g)) (λ j k y ne e h g. g);
        knows = each_set Q vs other z (λ j y ne e. each_set Q s.views id w (λ i x ne' e'. r.knows i x e')
            (knows_append author fixed r.log a b (r.knows id v at).0 (r.knows other u before).0, tt) j y e) (tt, tt);
        below = r.below;
        home = λ free. r.home (frees s.views id v w at refl (frees vs other u z at_other refl free));
      }

  -- what is left once one seat without a ticket has all numbers
  pub record Closes (own : List (Own S N)) (xs : List (Option T)) : Type 0 where
    pub value : T
    pub there : get_elem? xs 0 ≡ some (Some value)
    pub setting_is : setting value ≡ fixed
    pub known : Knows author fixed (notes value) own
    pub once : (k : ℕ) → times_of k own ≡ one_if (nat_lt k count)
    pub below : All (λ n. author n < count) (notes value)

  pub closes : (id : ℕ) (own : List (Own S N)) (ws : List ℕ) (xs : List (Option T)) → length own ≡ count → Final (Seen H id (view Idle own)) ws xs → Closes own xs
  closes id own ws xs whole final =
      let s : State (Option T) (View S N) = final.0 in
      let r : H s = final.1.0 in
      let v : View S N = view Idle own in
      let at : get_elem? s.views id ≡ some v = final.1.1 in
      let alone : (j : ℕ) (u : View S N) → j ≢ id → get_elem? s.views j ≡ some u → length u.own ≡ 0 = λ j u ne e.
      let two = two_below (λ (z : View S N). length z.own) s.views id j v u (λ z. ne (sym z)) at e in omega (arith, two, whole, r.numbers) in
      let free : IsFree s.views = λ j u e. dite (ℕ_discrete j id)
      (λ (same : j ≡ id). subst (λ (z : View S N). is_serving z.stage ≡ false) (some-injective v u (sym at ∙ subst (λ (k : ℕ). get_elem? s.views k ≡ some u) same e)) refl)
      (λ (ne : j ≢ id). none_serves r.log r.serving r.next u.own u.stage (alone j u ne e) (r.knows j u e).1) in
      let home = r.home free in
      record {
        value = home.0;
        there = final.4 0 (Some home.0) home.1;
        setting_is = home.2;
        known = subst (λ (l : List N). Knows author fixed l own) (sym home.3) (r.knows id v at).0;
        once = λ k. sym (total_alone (λ (z : View S N). times_of k z.own) s.views id v at (λ j u ne e. no_times k u.own (alone j u ne e))) ∙ r.once k;
        below = subst (All (λ n. author n < count)) (sym home.3) r.below;
      }

module _ {T S N : Type 0} (setting : T → S) (notes : T → List N) (author : N → ℕ) where
  -- the table of a new turn
  opens : (x : T) (count : ℕ) → count < 256 → All (λ n. author n < count) (notes x)
      → Holds setting notes author (setting x) count (opened (0 ∷ 0 ∷ 0 ∷ []) (Some x ∷ []) (view Idle (fresh (setting x) (notes x) 0 count)))
  opens x count few below =
      let v : View S N = view Idle (fresh (setting x) (notes x) 0 count) in
      let Q : View S N → Type 0 = λ y. Knows author (setting x) (notes x) y.own × At (notes x) 0 0 y.own y.stage in
      record {
        log = notes x;
        serving = 0;
        next = 0;
        changed = 0;
        words = refl;
        few = few;
        counted = refl;
        numbers = let e = length_fresh (setting x) (notes x) 0 count in omega (arith, e);
        once = λ k. let e = times_fresh (setting x) (notes x) k count in omega (arith, e);
        apart = apart_snoc [] (fresh (setting x) (notes x) 0 count) (λ i j t u w a b h g. absurd (some-ne-none u (sym a)));
        knows = each_snoc Q [] v (λ j u e. absurd (some-ne-none u (sym e))) (knows_fresh author (setting x) (notes x) 0 count, tt);
        below = below;
        home = λ free. (x, refl, refl, refl);
      }

  -- as it is by the setting and the notes of what it was made with
  pub opens_at : (fixed : S) (seen : List N) (x : T) (xs : List (Option T)) (count : ℕ) → setting x ≡ fixed → notes x ≡ seen → xs ≡ Some x ∷ [] → count < 256 → All (λ n. author n < count) seen
      → Holds setting notes author fixed count (opened (0 ∷ 0 ∷ 0 ∷ []) xs (view Idle (fresh fixed seen 0 count)))
  opens_at fixed seen x xs count fixed_is seen_is items few below =
      subst (λ (zs : List (Option T)). Holds setting notes author fixed count (opened (0 ∷ 0 ∷ 0 ∷ []) zs (view Idle (fresh fixed seen 0 count)))) (sym items)
      (subst₂ (λ (f : S) (l : List N). Holds setting notes author f count (opened (0 ∷ 0 ∷ 0 ∷ []) (Some x ∷ []) (view Idle (fresh f l 0 count)))) fixed_is seen_is
      (opens x count few (subst (All (λ n. author n < count)) (sym seen_is) below)))
