use Rattle.form.specs.Inner.Depths.{depth_of_concl}
use Rattle.form.proofs.depths.concl_depth.Goals as goal

pub returns-in-Property : goal.returns-in-Property
unfolding depth_of_concl
returns-in-Property c = rw c.in-Property.is

pub returns-in-Perm : goal.returns-in-Perm
unfolding depth_of_concl
returns-in-Perm c = rw c.in-Perm.is c.res_depth.ensures
