-- How handlers and the ticker begin, and what is left of one handler more.
use Rattle.std.proofs.Common.{◌≡◌, ℕ, zero, suc, ◌+◌, ◌*◌, ◌<◌, ◌≤◌, Bool, List, [], ◌∷◌, ◌++◌, length, refl, sym, ap, ◌∙◌, subst, subst₂, arith}
use Rattle.std.specs.Prelude.{All, Option, Some, None, IsSome, ◌↔◌, slice_get, Vec, vec_len, vec_capacity}
use Rattle.std.specs.declared.alloc.Global.{Global}
use Rattle.std.proofs.lemmas.Bool.{false≢true}
use Rattle.std.proofs.lemmas.List.{length-append, length-map}
use Rattle.std.proofs.lemmas.List.Elements.{All-nil, All-push, All-pop}
use Rattle.std.proofs.lemmas.Option.{slice_get_within}
use Rattle.turn_lock.specs.Passes.{TurnState, PassState}
use Rattle.turn_lock.specs.Turns.{IsIdle, pass_from, passes_from}
use Rattle.mj_ports.specs.declared.entry.Entry.{Entry}
use Rattle.mj_ports.specs.declared.picking.Picked.{Picked}
use Rattle.mj_ports.specs.declared.seated.Seated.{Ghosts}
use Rattle.mj_connection.proofs.Growing.{enters_nothing}
use Rattle.mj_session.specs.Wires.{WireState}
use Rattle.mj_ticker.specs.declared.ticker.Sight.{Sight}
use Rattle.mj_ticker.specs.declared.ticker.Sight.TheVariants as sight
use Rattle.mj_workers.specs.declared.worker.Back.{Back}
use Rattle.mj_workers.specs.declared.worker.Hand.{Hand}
use Rattle.mj_handlers.specs.declared.visit.HandlerEnd.{HandlerEnd}
use Rattle.mj_handlers.specs.declared.visit.Session.{Session}
use Rattle.mj_handlers.specs.Handlers.{WantsMemory, rows}
use Rattle.mj_ticker.specs.Idle.{AllIdle}
use Rattle.mj_handlers.specs.Hands.{IsHand, IsAtTable, Handles, HandEnds}
use Rattle.mj_workers.specs.Columns.{IsTaken, AreColumns, AreRows, items_of}
use Rattle.mj_workers.specs.Staffs.{AreNewRows, AreNewPasses, AreEmpty, IsReady, HasRoom, HasRoomOf, IsDone, AllDone, sessions_of}
use Rattle.mj_ticker.specs.Watches.{IsWatched, AreWatched}
use Rattle.mj_ticker.proofs.Besides.{found, all_at, all_from, mapped, unmapped, map_snoc}
use Rattle.mj_workers.proofs.Snocs.{same_snoc}
use Rattle.mj_ticker.proofs.Visiting.{watched_start}

next : (k : ℕ) → k + 1 ≡ suc k
next k = omega arith

module _ (n count : ℕ) (more : count ≡ n + 1) where
  -- one of so many taken: there were some, fewer are left, and they are few still
  pub some_were : 0 < count
  some_were = omega (arith, more)

  pub fewer_left : n ≤ count
  fewer_left = omega (arith, more)

  pub few_left : count < 256 → n < 256
  few_left few = omega (arith, more, few)

  -- what is left comes sooner to its end, a thread of its own counted
  pub falls_by : (t : ℕ) → 3 * count ≡ t → 3 * n + 1 < t
  falls_by t is = omega (arith, more, is)

none_long : (n : ℕ) → (0 < n → ⊥) → n ≡ 0
none_long zero none = refl
none_long (suc n) none = absurd (none (omega arith))

-- where nothing was popped there was nothing
pub none_popped : {X : Type 0} (v : Vec X Global) (r : Option X) → (IsSome r ↔ (0 < vec_len v)) → ((x : X) → r ≡ Some x → ⊥) → length v.items ≡ 0
none_popped v (Some x) some none = absurd (none x refl)
none_popped v None some none = none_long (length v.items) (λ near. let len : v.len ≡ length v.items = v.ok.0 in false≢true (some.1 (omega (arith, near, len))))

module _ {T S N : Type 0} (setting : T → S) (notes : T → List N) (turns : List (TurnState T)) where
  -- the last pass of each row of new passes
  taken_new : (count : ℕ) (old new : List (List (PassState T S N))) (column : List (PassState T S N)) → IsTaken old new column →
      AreNewRows setting notes turns (suc count) old → AreNewRows setting notes turns count new × AreNewPasses setting notes turns count column
  taken_new count old new column taken rows = (
    record { many = taken.second ∙ rows.many; each = λ t turn left gt gl. row_of t turn left gt gl (slice_get_within turns t turn gt) },
    record { many = taken.third ∙ rows.many; each = λ t turn p gt gp. pass_of t turn p gt gp (slice_get_within turns t turn gt) },
  )
    where
      parted : (t : ℕ) (turn : TurnState T) (row left : List (PassState T S N)) (p : PassState T S N) → slice_get turns t ≡ Some turn →
          slice_get old t ≡ Some row → slice_get new t ≡ Some left → slice_get column t ≡ Some p
          → (left ≡ passes_from turn.id (setting turn.opening) (notes turn.opening) count) × (p ≡ pass_from turn.id (setting turn.opening) (notes turn.opening) count)
      parted t turn row left p gt go gl gp =
          same_snoc left (passes_from turn.id (setting turn.opening) (notes turn.opening) count) p (pass_from turn.id (setting turn.opening) (notes turn.opening) count)
          (sym (taken.each t row left p go gl gp) ∙ rows.each t turn row gt go)

      row_of : (t : ℕ) (turn : TurnState T) (left : List (PassState T S N)) → slice_get turns t ≡ Some turn → slice_get new t ≡ Some left → t < length turns →
          left ≡ passes_from turn.id (setting turn.opening) (notes turn.opening) count
      row_of t turn left gt gl near =
          let row = found old t (omega (arith, near, rows.many)) in
          let p = found column t (omega (arith, near, rows.many, taken.third)) in
          (parted t turn row.0 left p.0 gt row.1 gl p.1).0

      pass_of : (t : ℕ) (turn : TurnState T) (p : PassState T S N) → slice_get turns t ≡ Some turn → slice_get column t ≡ Some p → t < length turns →
          p ≡ pass_from turn.id (setting turn.opening) (notes turn.opening) count
      pass_of t turn p gt gp near =
          let row = found old t (omega (arith, near, rows.many)) in
          let left = found new t (omega (arith, near, rows.many, taken.second)) in
          (parted t turn row.0 left.0 p gt row.1 left.1 gp).1

  -- the last pass of each row of so many new passes
  pub taken_last : (n count : ℕ) (old new : List (List (PassState T S N))) (column : List (PassState T S N)) → count ≡ n + 1 → IsTaken old new column →
      AreNewRows setting notes turns count old → AreNewRows setting notes turns n new × AreNewPasses setting notes turns n column
  taken_last n count old new column more taken rows = taken_new n old new column taken (subst (λ (k : ℕ). AreNewRows setting notes turns k old) (more ∙ next n) rows)

  -- new passes are not busy
  pub new_idle : (number : ℕ) (passes : List (PassState T S N)) → AreNewPasses setting notes turns number passes → AllIdle setting turns passes
  new_idle number passes new t turn p gt gp = subst (λ (q : PassState T S N). IsIdle setting turn q) (sym (new.each t turn p gt gp)) (record { turn_is = refl; setting_is = refl; busy_is = refl })

  -- new passes that slices hold are not busy
  pub idle_begun : (turns' : List (TurnState T)) (number : ℕ) (passes passes' : List (PassState T S N)) → turns' ≡ turns → passes' ≡ passes →
      AreNewPasses setting notes turns number passes → AllIdle setting turns' passes'
  idle_begun turns' number passes passes' same is new =
      subst₂ (λ (us : List (TurnState T)) (ps : List (PassState T S N)). AllIdle setting us ps) (sym same) (sym is) (new_idle number passes new)

module _ {T S A R L : Type 0} (g : Ghosts T S A R) (setting : T → S) (at : List ℕ → L → WireState) (picks : List ℕ → Picked) (turns : List (TurnState T)) where
  -- a handler begins with new passes
  pub new_hand : (number : ℕ) (passes : List (PassState T S (Entry A))) (kept : List (Vec (Session L) Global)) → AreNewPasses setting g.history turns number passes →
      AreEmpty (length turns) kept → IsHand g setting at picks ⊥ number (λ turn. g.history turn.opening) turns passes (rows kept)
  new_hand number passes kept new empty t turn p ss gt gp gk =
      let v = unmapped (λ (v : Vec (Session L) Global). v.items) kept t ss gk in
      let none : [] ≡ ss = sym (all_at (λ (v : Vec (Session L) Global). v.items ≡ []) kept t v.0 empty.none v.1) ∙ v.2 in
      subst (λ (l : List (Session L)). IsAtTable g setting at picks ⊥ number t (g.history turn.opening) turn p l) none
      (subst (λ (q : PassState T S (Entry A)). IsAtTable g setting at picks ⊥ number t (g.history turn.opening) turn q []) (sym (new.each t turn p gt gp))
      (record { number_is = refl; handled = λ legal. enters_nothing number (g.history turn.opening) }))

module _ {T S A R : Type 0} (g : Ghosts T S A R) (lost : T → ℕ → Bool) (handlers : ℕ) (setting : T → S) (turns : List (TurnState T)) where
  -- the ticker begins with new passes, and knows nothing
  pub desk_new : (by : ℕ) (r : Option (List ℕ)) (passes : List (PassState T S (Entry A))) (sights : List Sight) → AreNewPasses setting g.history turns by passes →
      length sights ≡ length turns → All (λ (s : Sight). s ≡ sight.Nothing) sights → AreWatched g lost handlers setting by (λ turn. g.history turn.opening) r r turns passes sights
  desk_new by r passes sights new many nothing = record {
    second = new.many;
    third = many;
    each = λ t turn p s gt gp gs. subst (λ (k : Sight). IsWatched g lost handlers setting by (g.history turn.opening) r r turn p k)
        (sym (all_at (λ (k : Sight). k ≡ sight.Nothing) sights t s nothing gs))
        (subst (λ (q : PassState T S (Entry A)). IsWatched g lost handlers setting by (g.history turn.opening) r r turn q sight.Nothing) (sym (new.each t turn p gt gp))
        (watched_start g lost handlers setting by r turn (pass_from turn.id (setting turn.opening) (g.history turn.opening) by) refl (record { turn_is = refl; setting_is = refl; busy_is = refl })));
  }

  module _ (by : ℕ) (first : TurnState T → List (Entry A)) (start read : Option (List ℕ)) where
    -- what is watched is not busy
    pub idle_watched : (passes : List (PassState T S (Entry A))) (sights : List Sight) → AreWatched g lost handlers setting by first start read turns passes sights → AllIdle setting turns passes
    idle_watched passes sights w t turn p gt gp =
        let s = found sights t (omega (arith, slice_get_within turns t turn gt, w.third)) in
        (w.each t turn p s.0 gt gp s.1).idle

    -- what is so of slices is so of the lists that they lend
    pub watched_same : (us : List (TurnState T)) (ps qs : List (PassState T S (Entry A))) (ss ks : List Sight) → us ≡ turns → ps ≡ qs → ss ≡ ks →
        AreWatched g lost handlers setting by first start read us ps ss → AreWatched g lost handlers setting by first start read turns qs ks
    watched_same us ps qs ss ks a b c w = subst (λ (l : List (TurnState T)). AreWatched g lost handlers setting by first start read l qs ks) a
        (subst₂ (λ (l : List (PassState T S (Entry A))) (k : List Sight). AreWatched g lost handlers setting by first start read us l k) b c w)

    pub watched_read : (next : Option (List ℕ)) (passes : List (PassState T S (Entry A))) (sights : List Sight) → read ≡ next →
        AreWatched g lost handlers setting by first start read turns passes sights → AreWatched g lost handlers setting by first start next turns passes sights
    watched_read next passes sights e w = subst (λ (r : Option (List ℕ)). AreWatched g lost handlers setting by first start r turns passes sights) e w

    pub watched_lent : (us : List (TurnState T)) (ps qs : List (PassState T S (Entry A))) (ss ks : List Sight) → us ≡ turns → ps ≡ qs → ss ≡ ks →
        AreWatched g lost handlers setting by first start read turns qs ks → AreWatched g lost handlers setting by first start read us ps ss
    watched_lent us ps qs ss ks a b c w = subst (λ (l : List (TurnState T)). AreWatched g lost handlers setting by first start read l ps ss) (sym a)
        (subst₂ (λ (l : List (PassState T S (Entry A))) (k : List Sight). AreWatched g lost handlers setting by first start read turns l k) (sym b) (sym c) w)

module _ {T S A R L F : Type 0} (g : Ghosts T S A R) (setting : T → S) (at : List ℕ → L → WireState) (picks : List ℕ → Picked) (made : F → Type 0) (number : F → ℕ) (turns : List (TurnState T)) where
  -- one handler, from what its slices come to
  pub done_handled : (by : ℕ) (us : List (TurnState T)) (passes ps qs back : List (PassState T S (Entry A))) (kept vs ws left : List (Vec (Session L) Global)) (end : HandlerEnd F)
      → us ≡ turns → ps ≡ passes → vs ≡ kept → back ≡ qs → left ≡ ws → AreNewPasses setting g.history turns by passes → AreEmpty (length turns) kept
      → (length qs ≡ length us) × (length ws ≡ length us) → AllIdle setting us qs
      → Handles g setting at picks (WantsMemory end) by us ps (rows vs) qs (rows ws) → HandEnds g setting us made number end by qs
      → IsDone g setting at picks made number turns by back (rows left) end
  done_handled by us passes ps qs back kept vs ws left end su sp sk eb el new empty many idle hand ended =
      let count = subst (λ (l : List (TurnState T)). (length qs ≡ length l) × (length ws ≡ length l)) su many in
      let all = subst (λ (l : List (TurnState T)). Handles g setting at picks (WantsMemory end) by l ps (rows vs) qs (rows ws)) su hand in
      let own = subst₂ (λ (l : List (PassState T S (Entry A))) (k : List (Vec (Session L) Global)). Handles g setting at picks (WantsMemory end) by turns l (rows k) qs (rows ws)) sp sk all in
      let done : IsDone g setting at picks made number turns by qs (rows ws) end = record {
        passes_are = count.0;
        kept_are = length-map ws (λ (v : Vec (Session L) Global). v.items) ∙ count.1;
        idle = subst (λ (l : List (TurnState T)). AllIdle setting l qs) su idle;
        hand = own (λ turn. g.history turn.opening) (new_hand g setting at picks turns by passes kept new empty);
        ended = subst (λ (l : List (TurnState T)). HandEnds g setting l made number end by qs) su ended;
      } in
      subst₂ (λ (l : List (PassState T S (Entry A))) (k : List (Vec (Session L) Global)). IsDone g setting at picks made number turns by l (rows k) end) (sym eb) (sym el) done

  -- no handler
  pub done_none : (count : ℕ) (cs : List (List (PassState T S (Entry A)))) (ks : List (List (List (Session L)))) (es : List (HandlerEnd F)) → count ≡ 0 → cs ≡ [] → ks ≡ [] → es ≡ []
      → AllDone g setting at picks made number turns count cs ks es
  done_none count cs ks es is a b d = subst (λ (m : ℕ). AllDone g setting at picks made number turns m cs ks es) (sym is) (a, b, d)

  -- one handler more
  pub done_more : (n by count : ℕ) (cs cs' : List (List (PassState T S (Entry A)))) (c : List (PassState T S (Entry A))) (ks ks' : List (List (List (Session L)))) (k : List (List (Session L)))
      (es es' : List (HandlerEnd F)) (e : HandlerEnd F) → count ≡ n + 1 → by ≡ n → cs' ≡ cs ++ c ∷ [] → ks' ≡ ks ++ k ∷ [] → es' ≡ es ++ e ∷ [] →
      AllDone g setting at picks made number turns n cs ks es → IsDone g setting at picks made number turns by c k e → AllDone g setting at picks made number turns count cs' ks' es'
  done_more n by count cs cs' c ks ks' k es es' e is own a b d rest one =
      subst (λ (m : ℕ). AllDone g setting at picks made number turns m cs' ks' es') (sym (is ∙ next n))
      (cs, c, ks, k, es, e, a, b, d, rest, subst (λ (m : ℕ). IsDone g setting at picks made number turns m c k e) own one)

  -- how many there are
  pub done_count : (n : ℕ) (cs : List (List (PassState T S (Entry A)))) (ks : List (List (List (Session L)))) (es : List (HandlerEnd F)) → AllDone g setting at picks made number turns n cs ks es →
      (length cs ≡ n) × (length ks ≡ n) × (length es ≡ n)
  done_count zero cs ks es (a, b, c) = (ap length a, ap length b, ap length c)
  done_count (suc n) cs ks es (cs', c, ks', k, es', e, a, b, d, rest, one) =
      let h = done_count n cs' ks' es' rest in (
        ap length a ∙ length-append cs' (c ∷ []) ∙ (ap (λ (m : ℕ). m + 1) h.0 ∙ next n),
        ap length b ∙ length-append ks' (k ∷ []) ∙ (ap (λ (m : ℕ). m + 1) h.1 ∙ next n),
        ap length d ∙ length-append es' (e ∷ []) ∙ (ap (λ (m : ℕ). m + 1) h.2 ∙ next n),
      )

  -- each has a pass of each table, and a list of sessions
  pub done_columns : (n : ℕ) (cs : List (List (PassState T S (Entry A)))) (ks : List (List (List (Session L)))) (es : List (HandlerEnd F)) → AllDone g setting at picks made number turns n cs ks es →
      All (λ (c : List (PassState T S (Entry A))). length c ≡ length turns) cs × All (λ (k : List (List (Session L))). length k ≡ length turns) ks
  done_columns zero cs ks es (a, b, c) = (
    subst (λ (l : List (List (PassState T S (Entry A)))). All (λ (c : List (PassState T S (Entry A))). length c ≡ length turns) l) (sym a)
        (All-nil (λ (c : List (PassState T S (Entry A))). length c ≡ length turns)),
    subst (λ (l : List (List (List (Session L)))). All (λ (k : List (List (Session L))). length k ≡ length turns) l) (sym b) (All-nil (λ (k : List (List (Session L))). length k ≡ length turns)),
  )
  done_columns (suc n) cs ks es (cs', c, ks', k, es', e, a, b, d, rest, one) =
      let h = done_columns n cs' ks' es' rest in (
        subst (λ (l : List (List (PassState T S (Entry A)))). All (λ (c : List (PassState T S (Entry A))). length c ≡ length turns) l) (sym a)
            (All-push (λ (c : List (PassState T S (Entry A))). length c ≡ length turns) cs' c h.0 one.passes_are),
        subst (λ (l : List (List (List (Session L)))). All (λ (k : List (List (Session L))). length k ≡ length turns) l) (sym b)
            (All-push (λ (k : List (List (Session L))). length k ≡ length turns) ks' k h.1 one.kept_are),
      )

-- room for so many is room for fewer
pub room_less : {P L F : Type 0} (n m : ℕ) (b : Back P L F) → n ≤ m → HasRoom m b → HasRoom n b
room_less n m b less h = record {
  no_columns = h.no_columns;
  no_kept = h.no_kept;
  no_ends = h.no_ends;
  columns = omega (arith, less, h.columns);
  kept = omega (arith, less, h.kept);
  ends = omega (arith, less, h.ends);
}

-- there is room for one more where so many fewer are there
pub room_for : {X : Type 0} (n count : ℕ) (v : Vec X Global) (cap : ℕ) → length v.items ≡ n → count ≡ n + 1 → vec_capacity v ≡ cap → count ≤ cap → vec_len v < vec_capacity v
room_for n count v cap long more same room = let len : v.len ≡ length v.items = v.ok.0 in omega (arith, long, more, same, room, len)

-- a hand has room for a pass of each row
pub rows_room : {X Y : Type 0} (tables : ℕ) (rows : Vec (Vec X Global) Global) (v : Vec Y Global) → length (items_of rows.items) ≡ tables → tables ≤ vec_capacity v →
    vec_len rows ≤ vec_capacity v
rows_room {X} tables rows v many room =
    let len : rows.len ≡ length rows.items = rows.ok.0 in
    omega (arith, many, room, len, length-map rows.items (λ (r : Vec X Global). r.items))

-- one hand less
pub last_ready : {P L : Type 0} (tables : ℕ) (hands rest : List (Hand P L)) (h : Hand P L) → hands ≡ rest ++ h ∷ [] → All (IsReady tables) hands → All (IsReady tables) rest × IsReady tables h
last_ready tables hands rest h e all = All-pop (IsReady tables) hands rest (Some h) e all

-- there is as much room as in the end
pub room_then : {P L F : Type 0} (a b c : Back P L F) → HasRoomOf a b → HasRoomOf b c → HasRoomOf a c
room_then a b c h k = record { columns = k.columns ∙ h.columns; kept = k.kept ∙ h.kept; ends = k.ends ∙ h.ends }

pub room_same : {P L F : Type 0} (b : Back P L F) → HasRoomOf b b
room_same b = record { columns = refl; kept = refl; ends = refl }

module _ {X : Type 0} where
  -- columns, and one more that is as long
  pub columns_more : (many count : ℕ) (columns pushed : List (Vec X Global)) (last : Vec X Global) → count ≡ many → pushed ≡ columns ++ last ∷ [] → AreColumns many (items_of columns) →
      length last.items ≡ many → AreColumns count (items_of pushed)
  columns_more many count columns pushed last same is all one =
      subst₂ (λ (n : ℕ) (l : List (List X)). AreColumns n l) (sym same) (sym (map_snoc (λ (v : Vec X Global). v.items) pushed columns last is))
      (All-push (λ (c : List X). length c ≡ many) (items_of columns) last.items all one)

  -- rows with room for so many
  pub rows_wide : (n k : ℕ) (rows : List (Vec X Global)) → k ≡ n → All (λ (r : Vec X Global). (r.items ≡ []) × (n ≤ vec_capacity r)) rows
      → All (λ (r : Vec X Global). (r.items ≡ []) × (k ≤ vec_capacity r)) rows
  rows_wide n k rows is h = subst (λ (m : ℕ). All (λ (r : Vec X Global). (r.items ≡ []) × (m ≤ vec_capacity r)) rows) (sym is) h

  -- rows that hold columns, of which the last one was put to the others
  pub rows_put : (n m : ℕ) (columns pushed : List (Vec X Global)) (last : Vec X Global) (rows : List (List X)) → n ≡ m → pushed ≡ columns ++ last ∷ [] →
      AreRows n (items_of pushed) rows → AreRows m (items_of columns ++ last.items ∷ []) rows
  rows_put n m columns pushed last rows same is h =
      subst₂ (λ (k : ℕ) (l : List (List X)). AreRows k l rows) same (map_snoc (λ (v : Vec X Global). v.items) pushed columns last is) h

-- each list of lists of sessions is as long as what it holds
pub kept_long : {L : Type 0} (n m : ℕ) (kept : List (Vec (Vec (Session L) Global) Global)) → m ≡ n → All (λ (k : List (List (Session L))). length k ≡ n) (sessions_of kept) →
    All (λ (k : Vec (Vec (Session L) Global) Global). length k.items ≡ m) kept
kept_long {L} n m kept same h = all_from (λ (k : Vec (Vec (Session L) Global) Global). length k.items ≡ m) kept (λ t k e.
    sym (length-map k.items (λ (v : Vec (Session L) Global). v.items))
    ∙ (all_at (λ (l : List (List (Session L))). length l ≡ n) (sessions_of kept) t (rows k.items) h
    (mapped (λ (x : Vec (Vec (Session L) Global) Global). rows x.items) kept t k e) ∙ sym same))
