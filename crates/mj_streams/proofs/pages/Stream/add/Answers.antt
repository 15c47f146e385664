use Rattle.std.proofs.Common.{ℕ, List, ◌++◌, ap, subst, ◌∙◌}
use Rattle.mj_streams.specs.Inner.Pages.{Fits}
use Rattle.mj_streams.proofs.PageLaws.{kept_added, told_added}
use Rattle.mj_streams.proofs.pages.Stream.add.Goals as goal

pub write_behind-requires : goal.write_behind-requires
write_behind-requires c = rw c.as_slice.ensures.len c.requires.bytes

pub invariant_of-self : goal.invariant_of-self
invariant_of-self c = record {
  kept = kept_added _ c.args.self.now.page.items c.args.self.now.text.items _ _ _ _
      (c.write_behind.ensures ∙ ap (λ (l : List ℕ). c.args.self.now.page.items ++ l) c.as_slice.ensures.value) c.push_reserved.ensures.items c.args.self.now.kept
      (subst (Fits c.args.self.now.page.items) c.args.self.now.text.ok.0 c.requires.fits)
      (c.len.ensures ∙ c.args.self.now.full.ok.0) (c.len-start.ensures ∙ c.args.self.now.page.ok.0) (c.len-2.ensures ∙ c.write_behind.new.page.ok.0);
}

pub returns : goal.returns
returns c =
    told_added _ c.args.self.now.page.items c.args.self.now.text.items _ _ _ _
    (c.write_behind.ensures ∙ ap (λ (l : List ℕ). c.args.self.now.page.items ++ l) c.as_slice.ensures.value) c.push_reserved.ensures.items c.args.self.now.kept
    (c.len.ensures ∙ c.args.self.now.full.ok.0) (c.len-start.ensures ∙ c.args.self.now.page.ok.0) (c.len-2.ensures ∙ c.write_behind.new.page.ok.0)
