-- No second result meets the contract of a public function. Each `Post` is the contract itself, as the function is proved to meet it.
use Rattle.laws.proofs.Only.{Determines, only}
use Rattle.lamps.proofs.lamp_of.Reads as lamp_of
use Rattle.lamps.proofs.reports_none.Reads as reports_none
use Rattle.lamps.proofs.far_stop_lit.Reads as far_stop_lit

-- what the lamp of a signal reports
pub lamp_of_determined : Determines lamp_of.Post
lamp_of_determined κs a r q s = only

-- it reports neither stop nor another light
pub reports_none_determined : Determines reports_none.Post
reports_none_determined κs a r q s = only

-- a far signal shows stop, as its lamp reports it
pub far_stop_lit_determined : Determines far_stop_lit.Post
far_stop_lit_determined κs a r q s = only
