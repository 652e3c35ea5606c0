use Rattle.std.proofs.Common.{refl, arith}
use Rattle.js_machine.proofs.resume.go_on_with.Goals as goal

pub returns-in-Normal-clause-means : goal.returns-in-Normal-clause-means
returns-in-Normal-clause-means c = rw c.in-Normal.is c.go_on.ensures.means

pub returns-in-Break-clause-means : goal.returns-in-Break-clause-means
returns-in-Break-clause-means c = λ t. rw (c.in-Break.is, c.pass_by.ensures.means) refl

pub returns-in-Continue-clause-means : goal.returns-in-Continue-clause-means
returns-in-Continue-clause-means c = λ t. rw (c.in-Continue.is, c.pass_by-in-Continue.ensures.means) refl

pub returns-in-Return-clause-means : goal.returns-in-Return-clause-means
returns-in-Return-clause-means c = λ t. rw (c.in-Return.is, c.pass_by-in-Return.ensures.means) refl

pub returns-in-Throw-clause-means : goal.returns-in-Throw-clause-means
returns-in-Throw-clause-means c = λ t. rw (c.in-Throw.is, c.pass_by-in-Throw.ensures.means) refl

pub returns-in-Break-clause-less : goal.returns-in-Break-clause-less
returns-in-Break-clause-less c = λ w. rw c.pass_by.ensures.means (omega (arith, c.pass_by.ensures.less w))

pub returns-in-Continue-clause-less : goal.returns-in-Continue-clause-less
returns-in-Continue-clause-less c = λ w. rw c.pass_by-in-Continue.ensures.means (omega (arith, c.pass_by-in-Continue.ensures.less w))

pub returns-in-Return-clause-less : goal.returns-in-Return-clause-less
returns-in-Return-clause-less c = λ w. rw c.pass_by-in-Return.ensures.means (omega (arith, c.pass_by-in-Return.ensures.less w))

pub returns-in-Throw-clause-less : goal.returns-in-Throw-clause-less
returns-in-Throw-clause-less c = λ w. rw c.pass_by-in-Throw.ensures.means (omega (arith, c.pass_by-in-Throw.ensures.less w))
