-- The session of a link that is for no table.
use Rattle.std.proofs.Common.{◌≡◌, ℕ, ◌<◌, ◌≤◌, false, List, [], ◌∷◌, length, refl, inl, inr, sym, subst, arith}
use Rattle.std.specs.Io.KnownBytes.{Appends}
use Rattle.mj_ports.specs.declared.picking.Picked.{Picked}
use Rattle.mj_ports.specs.declared.picking.Picked.TheVariants as picked
use Rattle.mj_ports.specs.declared.sitting.SitRefused.TheVariants as refused
use Rattle.mj_links.specs.Links.{EndsFirst, KeepsAll, ReadingStays, WritingStays, Sends, CountsFaultOfSending, has_newline}
use Rattle.mj_links.specs.Sinks.{WritesPrefix}
use Rattle.mj_links.specs.declared.wire.Sent.{Sent}
use Rattle.mj_session.specs.declared.served.Ended.TheVariants.{PeerEnded, LinkFault, LineTooLong, NotSeated}
use Rattle.mj_session.specs.Wires.{WireState, Took, Wrote}
use Rattle.mj_session.proofs.Wiring.{took_chain, took_nothing, took_end, took_kept, wrote_itself, wrote_still, told_all, told_failed, told_sent}
use Rattle.mj_handlers.specs.declared.lobby.Lobby.{Lobby}
use Rattle.mj_handlers.specs.Inner.Receipts.{IsTurnedAway, RefusedBy, Refuses}

-- a refusal is written
pub refuses : (y z : WireState) (refusal : List ℕ) (sent : Sent) → ReadingStays y.read z.read y.left z.left y.read_faults z.read_faults → z.held ≡ y.held
    → Sends sent y.written z.written refusal → CountsFaultOfSending sent y.write_faults z.write_faults → Refuses refusal y z
refuses y z refusal sent stays held bytes faults x hello line took told =
    (took_chain x y z (line ∷ []) [] [] took (took_nothing y z stays held), told_sent x y z hello refusal told ⊥ sent bytes faults)

module _ (picks : List ℕ → Picked) (l : Lobby) (x : WireState) where
  -- the hello line is not written whole
  pub not_greeted : (y : WireState) → ReadingStays x.read y.read x.left y.left x.read_faults y.read_faults → y.held ≡ x.held
      → WritesPrefix x.written y.written l.hello.items → x.write_faults < y.write_faults → IsTurnedAway picks l x y
  not_greeted y stays held part up = record {
    ended = LinkFault;
    lines = [];
    rest = [];
    took = took_nothing x y stays held;
    no_table = refl;
    wrote = told_failed x x y [] l.hello.items (wrote_itself x) ⊥ part up;
    wire_ends = (refl, inl up);
  }

  -- the line is refused
  pub named_badly : (y z : WireState) (line : List ℕ) → picks line ≡ picked.BadName → Refuses l.bad_name.items y z → Took x y (line ∷ []) [] → Wrote x y l.hello.items → IsTurnedAway picks l x z
  named_badly y z line is refuses took told =
      let both = refuses x l.hello.items line took told in
      record {
        ended = NotSeated refused.BadName;
        lines = line ∷ [];
        rest = [];
        took = both.0;
        no_table = (line, refl, subst (λ (p : Picked). RefusedBy p refused.BadName) (sym is) refl);
        wrote = both.1;
        wire_ends = refl;
      }

  pub without_room : (y z : WireState) (line : List ℕ) → picks line ≡ picked.NoRoom → Refuses l.no_room.items y z → Took x y (line ∷ []) [] → Wrote x y l.hello.items → IsTurnedAway picks l x z
  without_room y z line is refuses took told =
      let both = refuses x l.hello.items line took told in
      record {
        ended = NotSeated refused.NoRoom;
        lines = line ∷ [];
        rest = [];
        took = both.0;
        no_table = (line, refl, subst (λ (p : Picked). RefusedBy p refused.NoRoom) (sym is) refl);
        wrote = both.1;
        wire_ends = refl;
      }

  -- what comes once the hello line is written
  module _ (y z : WireState) (stays : ReadingStays x.read y.read x.left y.left x.read_faults y.read_faults) (held : y.held ≡ x.held)
      (hello : Appends x.written y.written l.hello.items) (up : x.write_faults ≤ y.write_faults) (still : WritingStays y.written z.written y.write_faults z.write_faults) where
    pub greeted : Wrote x z l.hello.items
    greeted = wrote_still x y z l.hello.items (record { written = hello; risen = up }) still

    pub ended_first : (e : EndsFirst y.left z.left y.read z.read y.held z.held) → y.read_faults ≤ z.read_faults → IsTurnedAway picks l x z
    ended_first e more = record {
      ended = PeerEnded;
      lines = [];
      rest = e.rest;
      took = took_chain x y z [] [] e.rest (took_nothing x y stays held) (took_end y z e more);
      no_table = refl;
      wrote = told_all ⊥ x z l.hello.items greeted;
      wire_ends = (e.unfinished, e.none, e.ended);
    }

    pub failed_first : (old new : List ℕ) → KeepsAll y.left z.left y.read z.read y.held z.held old new × (has_newline z.held ≡ false) × (length z.held < 4096)
        → y.read_faults < z.read_faults → IsTurnedAway picks l x z
    failed_first old new b more = record {
      ended = LinkFault;
      lines = [];
      rest = [];
      took = took_chain x y z [] [] [] (took_nothing x y stays held) (took_kept y z old new b.0 (omega (arith, more)));
      no_table = refl;
      wrote = told_all ⊥ x z l.hello.items greeted;
      wire_ends = (refl, inr (omega (arith, stays.faults, more), b.1, b.2));
    }

    pub too_long_first : (old new : List ℕ) → KeepsAll y.left z.left y.read z.read y.held z.held old new × (length z.held ≡ 4096) × (has_newline z.held ≡ false)
        → y.read_faults ≤ z.read_faults → IsTurnedAway picks l x z
    too_long_first old new b more = record {
      ended = LineTooLong;
      lines = [];
      rest = [];
      took = took_chain x y z [] [] [] (took_nothing x y stays held) (took_kept y z old new b.0 more);
      no_table = refl;
      wrote = told_all ⊥ x z l.hello.items greeted;
      wire_ends = (refl, b.1, b.2);
    }
