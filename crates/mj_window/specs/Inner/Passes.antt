-- Answers that are passes.
use Rattle.std.specs.Prelude.{ℕ, ◌≡◌, Option}
use Rattle.mj_deeds.specs.declared.four.Four.{Four}
use Rattle.mj_deeds.specs.declared.answer.Answer.{Answer}
use Rattle.mj_deeds.specs.declared.answer.Answer.TheVariants.{Pass}

-- The answer is a pass, with an actor or without.
pub record IsPass (answer : Answer) : Type 0 where
  pub actor : Option ℕ
  pub is : answer ≡ Pass actor

-- Each of the four is.
pub record ArePasses (given : Four Answer) : Type 0 where
  pub first : IsPass given.first
  pub second : IsPass given.second
  pub third : IsPass given.third
  pub fourth : IsPass given.fourth
