-- What is taken off a wire and written on it, one step after another.
use Rattle.std.proofs.Common.{◌≡◌, ◌⊎◌, inl, inr, ℕ, ◌<◌, ◌≤◌, false, List, [], ◌∷◌, ◌++◌, take, drop, refl, sym, ap, ◌∙◌, subst, arith, append_assoc, append-nil}
use Rattle.std.specs.Prelude.{Option}
use Rattle.std.specs.Io.KnownBytes.{Appends}
use Rattle.std.proofs.lemmas.List.{take-append-drop}
use Rattle.std.proofs.lemmas.List.Elements.{All-nil, All-cons, All-append}
use Rattle.mj_links.specs.Sinks.{WritesPrefix}
use Rattle.mj_links.specs.Links.{Passes, ReadingStays, WritingStays, GivesLine, EndsFirst, KeepsAll, Sends, CountsFaultOfSending, has_newline}
use Rattle.mj_links.specs.declared.wire.Sent.{Sent}
use Rattle.mj_links.specs.declared.wire.Sent.TheVariants.{Whole, Failed}
use Rattle.mj_links.proofs.KnownLaws.{Consumes-more, Appends-nothing, Appends-more}
use Rattle.mj_links.proofs.WireLaws.{passes_nothing}
use Rattle.mj_session.specs.Wires.{WireState, with_newlines, Took, Wrote, ToldInPart}

abbrev IsLine : List ℕ → Type 0
IsLine line = has_newline line ≡ false

newlines_append : (a b : List (List ℕ)) → with_newlines (a ++ b) ≡ with_newlines a ++ with_newlines b
newlines_append [] b = refl
newlines_append (l ∷ ls) b = ap (λ (z : List ℕ). (l ++ 10 ∷ []) ++ z) (newlines_append ls b) ∙ sym (append_assoc (l ++ 10 ∷ []) (with_newlines ls) (with_newlines b))

joined : (h pb qb wa h2 wb rest h3 : List ℕ) → h ++ pb ≡ (wa ++ []) ++ h2 → h2 ++ qb ≡ (wb ++ rest) ++ h3 → h ++ (pb ++ qb) ≡ ((wa ++ wb) ++ rest) ++ h3
joined h pb qb wa h2 wb rest h3 p q =
    sym (append_assoc h pb qb)
    ∙ (ap (λ (l : List ℕ). l ++ qb) (p ∙ ap (λ (l : List ℕ). l ++ h2) (append-nil wa))
    ∙ (append_assoc wa h2 qb
    ∙ (ap (λ (l : List ℕ). wa ++ l) q
    ∙ (sym (append_assoc wa (wb ++ rest) h3) ∙ ap (λ (l : List ℕ). l ++ h3) (sym (append_assoc wa wb rest))))))

pub took_chain : (x y z : WireState) (a b : List (List ℕ)) (rest : List ℕ) → Took x y a [] → Took y z b rest → Took x z (a ++ b) rest
took_chain x y z a b rest p q =
    let whole : x.held ++ (p.passes.bytes ++ q.passes.bytes) ≡ ((with_newlines a ++ with_newlines b) ++ rest) ++ z.held =
    joined x.held p.passes.bytes q.passes.bytes (with_newlines a) y.held (with_newlines b) rest z.held p.passes.held q.passes.held in
    record {
      passes = record {
        bytes = p.passes.bytes ++ q.passes.bytes;
        taken = Consumes-more x.left y.left z.left p.passes.bytes q.passes.bytes p.passes.taken q.passes.taken;
        read = Appends-more x.read y.read z.read p.passes.bytes q.passes.bytes p.passes.read q.passes.read;
        held = whole ∙ ap (λ (l : List ℕ). (l ++ rest) ++ z.held) (sym (newlines_append a b));
      };
      whole = All-append IsLine a b p.whole q.whole;
      risen = omega (arith, p.risen, q.risen);
    }

passes_same : (l l' r r' : Option (List ℕ)) (h h' : List ℕ) → l' ≡ l → r' ≡ r → h' ≡ h → Passes l l' r r' h h' []
passes_same l l' r r' h h' a b c =
    subst (λ (v : Option (List ℕ)). Passes l v r r' h h' []) (sym a)
    (subst (λ (v : Option (List ℕ)). Passes l l r v h h' []) (sym b)
    (subst (λ (v : List ℕ). Passes l l r r h v []) (sym c) (passes_nothing l r h)))

pub took_nothing : (x y : WireState) → ReadingStays x.read y.read x.left y.left x.read_faults y.read_faults → y.held ≡ x.held → Took x y [] []
took_nothing x y s h = record { passes = passes_same x.left y.left x.read y.read x.held y.held s.left s.read h; whole = All-nil IsLine; risen = omega (arith, s.faults) }

-- nothing is read meanwhile
pub took_on : (x y z : WireState) (lines : List (List ℕ)) (rest : List ℕ) → Took x y lines rest → ReadingStays y.read z.read y.left z.left y.read_faults z.read_faults → z.held ≡ y.held
    → Took x z lines rest
took_on x y z lines rest t s h =
    let front = with_newlines lines ++ rest in
    record {
      passes = subst (λ (v : Option (List ℕ)). Passes x.left v x.read z.read x.held z.held front) (sym s.left)
          (subst (λ (v : Option (List ℕ)). Passes x.left y.left x.read v x.held z.held front) (sym s.read)
          (subst (λ (v : List ℕ). Passes x.left y.left x.read y.read x.held v front) (sym h) t.passes));
      whole = t.whole;
      risen = omega (arith, s.faults, t.risen);
    }

pub took_itself : (x : WireState) → Took x x [] []
took_itself x = record { passes = passes_nothing x.left x.read x.held; whole = All-nil IsLine; risen = omega arith }

pub took_line : (x y : WireState) (line : List ℕ) → GivesLine x.left y.left x.read y.read x.held y.held line → x.read_faults ≤ y.read_faults → Took x y (line ∷ []) []
took_line x y line g up =
    let front : ((line ++ 10 ∷ []) ++ []) ++ [] ≡ line ++ 10 ∷ [] = append-nil ((line ++ 10 ∷ []) ++ []) ∙ append-nil (line ++ 10 ∷ []) in
    record {
      passes = subst (λ (l : List ℕ). Passes x.left y.left x.read y.read x.held y.held l) (sym front) g.passes;
      whole = All-cons IsLine line [] g.first (All-nil IsLine);
      risen = up;
    }

pub took_end : (x y : WireState) (e : EndsFirst x.left y.left x.read y.read x.held y.held) → x.read_faults ≤ y.read_faults → Took x y [] e.rest
took_end x y e up = record { passes = e.passes; whole = All-nil IsLine; risen = up }

pub took_kept : (x y : WireState) (old new : List ℕ) → KeepsAll x.left y.left x.read y.read x.held y.held old new → x.read_faults ≤ y.read_faults → Took x y [] []
took_kept x y old new k up = record { passes = k.passes; whole = All-nil IsLine; risen = up }

pub wrote_itself : (x : WireState) → Wrote x x []
wrote_itself x = record { written = Appends-nothing x.written; risen = omega arith }

wrote_chain : (x y z : WireState) (p q : List ℕ) → Wrote x y p → Wrote y z q → Wrote x z (p ++ q)
wrote_chain x y z p q u v = record { written = Appends-more x.written y.written z.written p q u.written v.written; risen = omega (arith, u.risen, v.risen) }

-- nothing was written then
pub wrote_still : (x y z : WireState) (out : List ℕ) → Wrote x y out → WritingStays y.written z.written y.write_faults z.write_faults → Wrote x z out
wrote_still x y z out w s =
    let none : Wrote y z [] = record { written = subst (λ (v : Option (List ℕ)). Appends y.written v []) (sym s.written) (Appends-nothing y.written); risen = omega (arith, s.faults) } in
    subst (λ (l : List ℕ). Wrote x z l) (append-nil out) (wrote_chain x y z out [] w none)

pub told_all : (excuse : Type 0) (x y : WireState) (out : List ℕ) → Wrote x y out → ToldInPart excuse x y [] out
told_all excuse x y out w = record { piece = out; rest = []; wrote = w; is = sym (append-nil out); whole = inl refl }

-- where a write failed, or where it is excused, the end of a longer text may be missing
pub told_more : (excuse : Type 0) (x y : WireState) (a b c more : List ℕ) → ToldInPart excuse x y a b → (x.write_faults < y.write_faults) ⊎ excuse → c ≡ b ++ more → ToldInPart excuse x y a c
told_more excuse x y a b c more t why e = record {
  piece = t.piece;
  rest = t.rest ++ more;
  wrote = t.wrote;
  is = e ∙ (ap (λ (l : List ℕ). l ++ more) t.is ∙ (append_assoc a (t.piece ++ t.rest) more ∙ ap (λ (l : List ℕ). a ++ l) (append_assoc t.piece t.rest more)));
  whole = inr why;
}

-- a text that was sent after another one
module _ (x y z : WireState) (out text : List ℕ) (w : Wrote x y out) where
  pub wrote_sent : Appends y.written z.written text → y.write_faults ≤ z.write_faults → Wrote x z (out ++ text)
  wrote_sent s up = wrote_chain x y z out text w (record { written = s; risen = up })

  pub told_failed : (excuse : Type 0) → WritesPrefix y.written z.written text → y.write_faults < z.write_faults → ToldInPart excuse x z [] (out ++ text)
  told_failed excuse s up = record {
    piece = out ++ take s.count text;
    rest = drop s.count text;
    wrote = wrote_chain x y z out (take s.count text) w (record { written = s.written; risen = omega (arith, up) });
    is = ap (λ (l : List ℕ). out ++ l) (sym (take-append-drop s.count text)) ∙ sym (append_assoc out (take s.count text) (drop s.count text));
    whole = inr (inl (omega (arith, w.risen, up)));
  }

  pub told_sent : (excuse : Type 0) (sent : Sent) → Sends sent y.written z.written text → CountsFaultOfSending sent y.write_faults z.write_faults → ToldInPart excuse x z [] (out ++ text)
  told_sent excuse Whole s up = told_all excuse x z (out ++ text) (wrote_sent s up)
  told_sent excuse Failed s up = told_failed excuse s up
