use Rattle.std.proofs.Common.{ap, sym}
use Rattle.mj_forms.specs.Lines.{quoted}
use Rattle.mjai_lines.proofs.Chains.{◌▸◌, as_piece}
use Rattle.mjai_lines.proofs.Lists.{bracketed_four}
use Rattle.mjai_lines.proofs.starts.push_names.Goals as goal

pub returns : goal.returns
returns c = as_piece (sym (bracketed_four _ _ _ _))
    (c.in_ok-push_all.ensures.ok
    ▸ as_piece (ap quoted c.as_slice.ensures.items) c.in_ok-push_quoted.ensures
    ▸ c.in_ok-push_all-2.ensures.ok
    ▸ as_piece (ap quoted c.as_slice-2.ensures.items) c.in_ok-push_quoted-2.ensures
    ▸ c.in_ok-push_all-3.ensures.ok
    ▸ as_piece (ap quoted c.as_slice-3.ensures.items) c.in_ok-push_quoted-3.ensures
    ▸ c.in_ok-push_all-4.ensures.ok
    ▸ as_piece (ap quoted c.as_slice-4.ensures.items) c.in_ok-push_quoted-4.ensures
    ▸ c.in_ok-push_all-5.ensures.ok)
