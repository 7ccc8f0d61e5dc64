-- No second answer, and no second buffer, meets the contract of a public function.
-- `Post` is the contract itself, as the function is proved to meet it.
use Rattle.laws.proofs.Only.{only}
use Rattle.numerals.proofs.Unique.{DeterminesBytes}
use Rattle.panel.proofs.panel.Reads as panel
use Rattle.panel.proofs.panel_in_run.Reads as panel_in_run

-- the answer, and every byte of the lent buffer
pub panel_determined : DeterminesBytes (λ κs s. s.1.1.0.now) panel.Post
panel_determined κs a r q s t p o = (only p.0 o.0, only p.1 o.1)

-- the same in a run
pub panel_in_run_determined : DeterminesBytes (λ κs s. s.1.1.0.now) panel_in_run.Post
panel_in_run_determined κs a r q s t p o = (only p.0 o.0, only p.1 o.1)
