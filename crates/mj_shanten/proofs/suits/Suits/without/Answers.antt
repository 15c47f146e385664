use Rattle.std.proofs.Common.{true, ◌∙◌, arith}
use Rattle.mj_shanten.proofs.Whole.{less_wide, same_row, less_of}
use Rattle.mj_shanten.proofs.suits.Suits.without.Goals as goal

pub from_characters-requires-clause-wide : goal.from_characters-requires-clause-wide
from_characters-requires-clause-wide c = less_wide _ _ _ _ _ c.number.ensures.value (omega arith) (omega arith) c.self.invariant.wide

pub from_circles-requires-clause-wide : goal.from_circles-requires-clause-wide
from_circles-requires-clause-wide c = less_wide _ _ _ _ _ c.number.ensures.value (omega arith) (omega arith) c.self.invariant.wide

pub from_bamboo-requires-clause-wide : goal.from_bamboo-requires-clause-wide
from_bamboo-requires-clause-wide c = less_wide _ _ _ _ _ c.number.ensures.value (omega arith) (omega arith) c.self.invariant.wide

pub from_honours-requires-clause-wide : goal.from_honours-requires-clause-wide
from_honours-requires-clause-wide c = less_wide _ _ _ _ _ c.number.ensures.value (omega arith) (omega arith) c.self.invariant.wide

pub from_circles-requires-clause-first : goal.from_circles-requires-clause-first
from_circles-requires-clause-first c = same_row c.self.inside.held c.self.inside.room _ _ c.number.result _ 0 true (let is = c.in-1.is in omega arith) c.self.invariant.first

pub from_bamboo-requires-clause-first : goal.from_bamboo-requires-clause-first
from_bamboo-requires-clause-first c = same_row c.self.inside.held c.self.inside.room _ _ c.number.result _ 0 true (let is = c.in-2.is in omega arith) c.self.invariant.first

pub from_bamboo-requires-clause-second : goal.from_bamboo-requires-clause-second
from_bamboo-requires-clause-second c = same_row c.self.inside.held c.self.inside.room _ _ c.number.result _ 9 true (let is = c.in-2.is in omega arith) c.self.invariant.second

pub from_honours-requires-clause-first : goal.from_honours-requires-clause-first
from_honours-requires-clause-first c = same_row c.self.inside.held c.self.inside.room _ _ c.number.result _ 0 true (omega arith) c.self.invariant.first

pub from_honours-requires-clause-second : goal.from_honours-requires-clause-second
from_honours-requires-clause-second c = same_row c.self.inside.held c.self.inside.room _ _ c.number.result _ 9 true (omega arith) c.self.invariant.second

pub from_honours-requires-clause-third : goal.from_honours-requires-clause-third
from_honours-requires-clause-third c = same_row c.self.inside.held c.self.inside.room _ _ c.number.result _ 18 true (omega arith) c.self.invariant.third

pub returns-in-1 : goal.returns-in-1
returns-in-1 c = c.from_circles.ensures ∙ less_of _ _ _ _ _ c.number.ensures.value c.self.view_is c.self.invariant.wide.held_size (omega arith) c.self.invariant.wide.held_is

pub returns-in-2 : goal.returns-in-2
returns-in-2 c = c.from_bamboo.ensures ∙ less_of _ _ _ _ _ c.number.ensures.value c.self.view_is c.self.invariant.wide.held_size (omega arith) c.self.invariant.wide.held_is

pub returns-in_default : goal.returns-in_default
returns-in_default c = c.from_honours.ensures ∙ less_of _ _ _ _ _ c.number.ensures.value c.self.view_is c.self.invariant.wide.held_size (omega arith) c.self.invariant.wide.held_is
