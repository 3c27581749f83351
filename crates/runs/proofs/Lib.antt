mod ChainLaws
mod PointLaws
mod RunLaws
mod SameLaws
mod StandingLaws
