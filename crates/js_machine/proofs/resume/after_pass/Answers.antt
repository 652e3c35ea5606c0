use Rattle.std.proofs.Common.{refl}
use Rattle.js_machine.proofs.resume.after_pass.Goals as goal

pub returns-in-Normal-clause-means : goal.returns-in-Normal-clause-means
returns-in-Normal-clause-means c = λ t. rw c.in-Normal.is refl

pub returns-in-Continue-None-clause-means : goal.returns-in-Continue-None-clause-means
returns-in-Continue-None-clause-means c = λ t. rw (c.in-Continue-None.is, c.in-Continue-None.field-0-is) refl

pub returns-in-Continue-Some-clause-means : goal.returns-in-Continue-Some-clause-means
returns-in-Continue-Some-clause-means c = λ t. rw (c.in-Continue-Some.is, c.in-Continue-Some.field-0-is) refl

pub returns-in-Break-None-clause-means : goal.returns-in-Break-None-clause-means
returns-in-Break-None-clause-means c = λ t. rw (c.in-Break-None.is, c.in-Break-None.field-0-is, c.undefined.ensures) refl

pub returns-in-Break-Some-clause-means : goal.returns-in-Break-Some-clause-means
returns-in-Break-Some-clause-means c = λ t. rw (c.in-Break-Some.is, c.in-Break-Some.field-0-is) refl

pub returns-in-Return-clause-means : goal.returns-in-Return-clause-means
returns-in-Return-clause-means c = λ t. rw c.in-Return.is refl

pub returns-clause-means : goal.returns-clause-means
returns-clause-means c = λ t. rw c.in-Throw.is refl
