use Rattle.std.proofs.Common.{refl, subst, arith}
use Rattle.oat_device.proofs.Bodies.{Keeps, count-open, count-sealed, keeps}
use Rattle.oat_device.proofs.device.Device.bodies.Goals as goal

pub overflow_cast-shelved : goal.overflow_cast-shelved
overflow_cast-shelved c =
    let few = (keeps c.self.inside.course _ c.self.invariant refl).few in
    let len = c.len-shelved.ensures in
    omega (arith, few, len)

pub overflow_add-result : goal.overflow_add-result
overflow_add-result c =
    let few = (keeps c.self.inside.course _ c.self.invariant refl).few in
    let len = c.len-shelved.ensures in
    omega (arith, few, len)

pub returns-in-Some : goal.returns-in-Some
returns-in-Some c =
    let k = subst (Keeps c.self.inside.course) c.self.view_is (keeps c.self.inside.course _ c.self.invariant refl) in
    let all = count-sealed c.self.inside.course c.args.self.now k _ c.in-Some.ensures in
    let len = c.len-shelved.ensures in
    omega (arith, all, len)

pub returns-in-None : goal.returns-in-None
returns-in-None c =
    let k = subst (Keeps c.self.inside.course) c.self.view_is (keeps c.self.inside.course _ c.self.invariant refl) in
    let all = count-open c.self.inside.course c.args.self.now k c.in-None.ensures in
    let len = c.len-shelved.ensures in
    omega (arith, all, len)
