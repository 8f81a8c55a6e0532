-- `device::Device::power_on` meets its contract: each return follows from the tests on its way.
use borrow.Author.Rules.{rules}
use Rattle.device.specs.PowerOn.{power_on, bytes_from}
use Rattle.device.proofs.Arms.{arms}
use Rattle.device.proofs.Device.power_on.Statement.{statement}
use Rattle.device.proofs.Device.power_on.Tie as tie

pub power_on_spec : {M : Type 1} → statement M
unfolding power_on bytes_from
power_on_spec =
    tie.close
    (tie.spec
    (λ c. search rules)
    (λ c. search rules)
    (λ c. search rules)
    (λ c. search rules)
    (λ c. search rules)
    (λ c. search rules)
    (λ c. search rules)
    (λ c. search rules)
    (λ c. search rules)
    (λ c. search rules)
    (λ c. search rules)
    (λ c. search rules)
    (λ c. search rules)
    (λ c. search rules)
    (λ c. search rules)
    (λ c. search rules)
    (λ c. search arms))
