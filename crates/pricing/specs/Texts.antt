-- What the faults of steps and wires are written as.
use Rattle.std.specs.Prelude.{ℕ, List, ◌++◌, codes, decimal}
use Rattle.grid.specs.Texts.{step_text}
use Rattle.pricing.specs.declared.fault.StepFault.{StepFault}
use Rattle.pricing.specs.declared.fault.StepFault.TheVariants.{NotJoined, Lacked, Refused}
use Rattle.pricing.specs.declared.fault.WireFault.{WireFault}
use Rattle.pricing.specs.declared.fault.WireFault.TheVariants.{NoPlace, OutsideShape, AtStep}

-- why two places are no step
abbrev pub step_fault_text : StepFault → List ℕ
step_fault_text NotJoined = codes "not a step"
step_fault_text (Lacked k) = codes "not in the tariff: " ++ step_text k
step_fault_text (Refused k) = codes "past the limits: " ++ step_text k

-- why a list of places is no wire
abbrev pub wire_fault_text : WireFault → List ℕ
wire_fault_text NoPlace = codes "no place"
wire_fault_text (OutsideShape p) = decimal p ++ codes " is outside the shape"
wire_fault_text (AtStep n f) = codes "step " ++ (decimal n ++ (codes " is " ++ step_fault_text f))
