mod PartsAt
mod Fronts
mod RoomLeft
mod PlacesAre
mod Extending
mod Replaying
mod Settling
