use Rattle.std.proofs.Common.{◌≡◌, length, get_or, pos, rules, sym, ap}
use Rattle.std.specs.Fmt.{signed_decimal}
use Rattle.std.proofs.lemmas.Int.{to_z-of_z}
use mir.Val.{SFits}
use mir.Syntax.{w32}
use Rattle.mjai_lines.proofs.Chains.{◌▸◌, as_piece}
use Rattle.mjai_lines.proofs.Lists.{bracketed_items}
use Rattle.mjai_lines.proofs.pieces.push_points.Goals as goal

pub returns : goal.returns
returns c =
    let four : length c.args.points ≡ 4 = search rules in
    let first : SFits w32 (get_or c.args.points 0 (pos 0)) = search rules in
    let second : SFits w32 (get_or c.args.points 1 (pos 0)) = search rules in
    let third : SFits w32 (get_or c.args.points 2 (pos 0)) = search rules in
    let fourth : SFits w32 (get_or c.args.points 3 (pos 0)) = search rules in
    as_piece (sym (bracketed_items signed_decimal c.args.points (pos 0) four))
    (c.in_ok-push_all.ensures.ok
    ▸ as_piece (ap signed_decimal (to_z-of_z w32 _ first)) c.in_ok-push_signed.ensures.ok
    ▸ c.in_ok-push_all-2.ensures.ok
    ▸ as_piece (ap signed_decimal (to_z-of_z w32 _ second)) c.in_ok-push_signed-2.ensures.ok
    ▸ c.in_ok-push_all-3.ensures.ok
    ▸ as_piece (ap signed_decimal (to_z-of_z w32 _ third)) c.in_ok-push_signed-3.ensures.ok
    ▸ c.in_ok-push_all-4.ensures.ok
    ▸ as_piece (ap signed_decimal (to_z-of_z w32 _ fourth)) c.in_ok-push_signed-4.ensures.ok
    ▸ c.in_ok-push_all-5.ensures.ok)
