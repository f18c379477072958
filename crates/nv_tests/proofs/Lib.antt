mod HeaderRoom
mod LostPower
mod TestRegions
